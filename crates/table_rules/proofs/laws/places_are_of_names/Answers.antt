use Rattle.table_rules.proofs.Places.{place_is_of_name, place_has_name, fits_by_place, places_stay}
use Rattle.table_rules.proofs.laws.places_are_of_names.Goals as goal

pub returns-clause-table : goal.returns-clause-table
returns-clause-table c = place_is_of_name

pub returns-clause-name : goal.returns-clause-name
returns-clause-name c = place_has_name

pub returns-clause-fit : goal.returns-clause-fit
returns-clause-fit c = fits_by_place

pub returns-clause-stay : goal.returns-clause-stay
returns-clause-stay c = places_stay
