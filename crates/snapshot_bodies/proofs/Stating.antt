-- The CREATE statement of an object is the one that makes it again.
use Rattle.std.proofs.Common.{◌≡◌, refl}
use Rattle.catalog_show_create.specs.Stated.{statement_of}
use Rattle.catalog_show_create.specs.catalog_rules.Bases.{creation_of}
use Rattle.catalog_show_create.specs.catalog_rules.Objects.{Object, function, procedure, reaction, table}

pub statement_is : (o : Object) → statement_of o ≡ creation_of o
statement_is (table definition) = refl
statement_is (function p) = refl
statement_is (procedure p) = refl
statement_is (reaction t) = refl
