-- The objects of snapshots can be made again, and so can what an image holds.
use Rattle.std.proofs.Common.{◌≡◌, ℕ, zero, suc, ◌+◌, Bool, true, false, cond, eqb, leb, ltb, List, [], ◌∷◌, ◌++◌, length, take, drop, Option, Some, None, Result, Ok, Err, refl, sym, ap, subst, ◌∙◌}
use Rattle.std.specs.Prelude.{◌%◌}
use Rattle.std.specs.Option.{option_map, option_and_then}
use Rattle.std.specs.Str.{bytes_eq}
use Rattle.hex.specs.Hex.{IsBytes}
use Rattle.table_rules.specs.Tables.{Table}
use Rattle.sql_tree.specs.Statement.{Statement, create_table}
use Rattle.sql_print.specs.StatementSpelling.{spelling}
use Rattle.catalog_laws.specs.catalog_rules.Bases.{Base, empty_base, defined}
use Rattle.catalog_laws.specs.catalog_rules.Defined.{definition_of}
use Rattle.catalog_laws.specs.text_answers.Answers.{TextAnswer, a_statement, a_syntax_error, too_deep, text_answer}
use Rattle.byte_fields.specs.Field.{number_at}
use Rattle.disk_model.specs.Story.{Image}
use Rattle.disk_model.proofs.Bytes.{bytes_take, bytes_drop}
use Rattle.store_model.specs.log_model.Images.{Read, and_then}
use Rattle.store_model.specs.log_model.Log.{LogPlace}
use Rattle.catalog_laws.specs.Making.{AreMadeAgain, BasesStillMadeAgain}
use Rattle.store_model.specs.declared.record.Kind.{Kind}
use Rattle.store_model.specs.declared.record.Kind.TheVariants.{Source, Replica}
use Rattle.store_model.specs.Reading.{number_of, text_behind, all_behind, row_in}
use Rattle.store_model.specs.Held.{LogEnd, Held, most_committed}
use Rattle.store_model.specs.Snapshots.{node_of, end_in, ends_if, ends_in, place_in, statement_in, table_of_rows, filled, one_more, object_made_by, object_onto, objects_onto, base_in, held_in, generation_in, snapshot_of, is_open, of_file, snapshot_in}
use Rattle.store_model.specs.Stores.{Spot, begun_by, begun_in, greater, greater_if, begun_from, journal_of, Stands}
use Rattle.store_laws.specs.Laws.{IsImageOfBytes}
use Rattle.store_laws.proofs.Bytes.{Gives, Any, gives_either, says_given, then_gives, as_gives, end_says, number_gives, text_gives, all_give, row_gives}
use Rattle.store_laws.proofs.Records.{bodies_still, bodies_are_bytes}

-- ---- one object

-- the rows of a table leave the catalog
rows_leave : (s : Statement) (before made : Base) (bytes : List ℕ) → IsBytes bytes → Gives (λ (b : Base). b.catalog ≡ made.catalog) (filled s before made bytes)
rows_leave (create_table t) before made bytes is =
    then_gives (λ rows. Any rows) (λ (b : Base). b.catalog ≡ made.catalog) _ (all_behind 8 row_in bytes) (all_give row_in row_gives 8 bytes is)
    (λ rows rest any is'. by rest is' (table_of_rows (definition_of t) rows))
  where
    by : (rest : List ℕ) → IsBytes rest → (x : Option Table)
        → Gives (λ (b : Base). b.catalog ≡ made.catalog) (option_map (λ u. (record made { tables = before.tables ++ u ∷ [] }, rest)) x)
    by rest is None = tt
    by rest is (Some u) = (refl, is)
rows_leave s before made bytes is = (refl, is)

module _ (keeps : BasesStillMadeAgain) (before : Base) (are : AreMadeAgain before.catalog) where
  made_gives : (s : Statement) (bytes : List ℕ) → IsBytes bytes
      → Gives (λ (made : Base). defined s before ≡ Some made) (option_map (λ made. (made, bytes)) (option_and_then (one_more before) (defined s before)))
  made_gives s bytes is = by (defined s before) refl
    where
      one : (made : Base) (b : Bool) → defined s before ≡ Some made
          → Gives (λ (m : Base). defined s before ≡ Some m) (option_map (λ (m : Base). (m, bytes)) (cond b (Some made) None))
      one made true e = (e, is)
      one made false e = tt

      by : (x : Option Base) → defined s before ≡ x
          → Gives (λ (m : Base). defined s before ≡ Some m) (option_map (λ (m : Base). (m, bytes)) (option_and_then (one_more before) x))
      by None e = tt
      by (Some made) e = one made (eqb (length made.catalog) (length before.catalog + 1)) e

  statement_gives : (text bytes : List ℕ) → IsBytes bytes
      → Gives (λ s. text_answer text ≡ a_statement s) (option_map (λ s. (s, bytes)) (statement_in text (text_answer text)))
  statement_gives text bytes is = by (text_answer text) refl
    where
      same : (s : Statement) (b : Bool) → text_answer text ≡ a_statement s
          → Gives (λ (t : Statement). text_answer text ≡ a_statement t) (option_map (λ (t : Statement). (t, bytes)) (cond b (Some s) None))
      same s true e = (e, is)
      same s false e = tt

      by : (a : TextAnswer) → text_answer text ≡ a
          → Gives (λ (t : Statement). text_answer text ≡ a_statement t) (option_map (λ (t : Statement). (t, bytes)) (statement_in text a))
      by (a_statement s) e = same s (bytes_eq (spelling s) text) e
      by (a_syntax_error at) e = tt
      by too_deep e = tt

  object_gives : (bytes : List ℕ) → IsBytes bytes → Gives (λ (b : Base). AreMadeAgain b.catalog) (object_onto before bytes)
  object_gives bytes is =
      then_gives IsBytes (λ (b : Base). AreMadeAgain b.catalog) _ (text_behind 8 bytes) (text_gives 8 bytes is) (λ text rest is_text is'.
      then_gives (λ s. text_answer text ≡ a_statement s) (λ (b : Base). AreMadeAgain b.catalog) (object_made_by before)
      (option_map (λ s. (s, rest)) (statement_in text (text_answer text))) (statement_gives text rest is') (λ s rest' reads is''.
      then_gives (λ (made : Base). defined s before ≡ Some made) (λ (b : Base). AreMadeAgain b.catalog) (filled s before)
      (option_map (λ made. (made, rest')) (option_and_then (one_more before) (defined s before))) (made_gives s rest' is'') (λ made rest'' e is'''.
      leaves s made rest'' is''' (keeps text s before made is_text reads e are))))
    where
      by : (made : Base) (r : Read Base) → AreMadeAgain made.catalog → Gives (λ (b : Base). b.catalog ≡ made.catalog) r → Gives (λ (b : Base). AreMadeAgain b.catalog) r
      by made None again same = tt
      by made (Some r) again same = (subst AreMadeAgain (sym same.0) again, same.1)

      leaves : (s : Statement) (made : Base) (rest : List ℕ) → IsBytes rest → AreMadeAgain made.catalog → Gives (λ (b : Base). AreMadeAgain b.catalog) (filled s before made rest)
      leaves s made rest is again = by made (filled s before made rest) again (rows_leave s before made rest is)

-- ---- all of them

-- what a snapshot's file may have
abbrev AreBegun : Option (ℕ × Held) → Type 0
AreBegun None = Unit {0}
AreBegun (Some begun) = AreMadeAgain begun.1.base.catalog

answer_is : (r : Result (Option (ℕ × Held)) Spot) (x y : Option (ℕ × Held)) → r ≡ Ok x → r ≡ Ok y → x ≡ y
answer_is r x y e e' =
    sym (ap (λ (a : Result (Option (ℕ × Held)) Spot). elim a [ Ok z ↦ z | Err spot ↦ x ]) e) ∙ ap (λ (a : Result (Option (ℕ × Held)) Spot). elim a [ Ok z ↦ z | Err spot ↦ x ]) e'

pair_is : (r : Result (ℕ × Held) Spot) (x y : ℕ × Held) → r ≡ Ok x → r ≡ Ok y → x ≡ y
pair_is r x y e e' = sym (ap (λ (a : Result (ℕ × Held) Spot). elim a [ Ok z ↦ z | Err spot ↦ x ]) e) ∙ ap (λ (a : Result (ℕ × Held) Spot). elim a [ Ok z ↦ z | Err spot ↦ x ]) e'

module _ (keeps : BasesStillMadeAgain) (none : AreMadeAgain []) where
  objects_give : (n : ℕ) (before : Base) (bytes : List ℕ) → AreMadeAgain before.catalog → IsBytes bytes → Gives (λ (b : Base). AreMadeAgain b.catalog) (objects_onto n before bytes)
  objects_give zero before bytes are is = (are, is)
  objects_give (suc n) before bytes are is =
      then_gives (λ (b : Base). AreMadeAgain b.catalog) (λ (b : Base). AreMadeAgain b.catalog) (objects_onto n) (object_onto before bytes)
      (object_gives keeps before are bytes is) (λ b rest again is'. objects_give n b rest again is')

  base_gives : (bytes : List ℕ) → IsBytes bytes → Gives (λ (b : Base). AreMadeAgain b.catalog) (base_in bytes)
  base_gives bytes is =
      then_gives (λ n. Any n) (λ (b : Base). AreMadeAgain b.catalog) _ (number_of 4 bytes) (number_gives 4 bytes is)
      (λ count rest any is'. objects_give count empty_base rest none is')

  end_gives : (bytes : List ℕ) → IsBytes bytes → Gives (λ (e : LogEnd). Any e) (end_in bytes)
  end_gives bytes is = as_gives (λ n. Any n) (λ (e : LogEnd). Any e) (λ n. record { pos = n }) (number_of 4 bytes) (number_gives 4 bytes is) (λ n any. tt)

  ends_give : (bytes : List ℕ) → IsBytes bytes → Gives (λ (es : List LogEnd). Any es) (ends_in bytes)
  ends_give bytes is =
      then_gives (λ (es : List LogEnd). Any es) (λ (es : List LogEnd). Any es) _ (all_behind 4 end_in bytes) (all_give end_in end_gives 4 bytes is)
      (λ es rest any is'. by rest is' (ends_if es))
    where
      by : (rest : List ℕ) → IsBytes rest → (x : Option (List LogEnd)) → Gives (λ (es : List LogEnd). Any es) (option_map (λ (es : List LogEnd). (es, rest)) x)
      by rest is None = tt
      by rest is (Some es) = (tt, is)

  place_gives : (bytes : List ℕ) → IsBytes bytes → Gives (λ (p : LogPlace). Any p) (place_in bytes)
  place_gives bytes is =
      then_gives (λ n. Any n) (λ (p : LogPlace). Any p) _ (number_of 4 bytes) (number_gives 4 bytes is) (λ log rest any is'.
      as_gives (λ n. Any n) (λ (p : LogPlace). Any p) (λ n. record { log = log; pos = n }) (number_of 4 rest) (number_gives 4 rest is') (λ n any'. tt))

  held_gives : (kind : Kind) (number : ℕ) (bytes : List ℕ) → IsBytes bytes → Gives (λ (h : Held). AreMadeAgain h.base.catalog) (held_in kind number bytes)
  held_gives Source number bytes is =
      gives_either (λ (h : Held). AreMadeAgain h.base.catalog) (leb number most_committed) _ None
      (then_gives (λ (es : List LogEnd). Any es) (λ (h : Held). AreMadeAgain h.base.catalog) _ (ends_in bytes) (ends_give bytes is) (λ es rest any is'.
      as_gives (λ (b : Base). AreMadeAgain b.catalog) (λ (h : Held). AreMadeAgain h.base.catalog) _ (base_in rest) (base_gives rest is') (λ b again. again))) tt
  held_gives Replica number bytes is =
      then_gives (λ (p : LogPlace). Any p) (λ (h : Held). AreMadeAgain h.base.catalog) _ (place_in bytes) (place_gives bytes is) (λ p rest any is'.
      as_gives (λ (b : Base). AreMadeAgain b.catalog) (λ (h : Held). AreMadeAgain h.base.catalog) _ (base_in rest) (base_gives rest is') (λ b again. again))

  generation_gives : (kind : Kind) (node : ℕ) (bytes : List ℕ) → IsBytes bytes → Gives (λ (b : ℕ × Held). AreMadeAgain b.1.base.catalog) (generation_in kind node bytes)
  generation_gives kind node bytes is =
      gives_either (λ (b : ℕ × Held). AreMadeAgain b.1.base.catalog) (eqb node (node_of kind)) _ None
      (then_gives (λ n. Any n) (λ (b : ℕ × Held). AreMadeAgain b.1.base.catalog) _ (number_of 8 bytes) (number_gives 8 bytes is) (λ generation rest any is'.
      as_gives (λ (h : Held). AreMadeAgain h.base.catalog) (λ (b : ℕ × Held). AreMadeAgain b.1.base.catalog) (λ (h : Held). (generation, h)) (and_then (held_in kind) (number_of 8 rest))
      (then_gives (λ n. Any n) (λ (h : Held). AreMadeAgain h.base.catalog) (held_in kind) (number_of 8 rest) (number_gives 8 rest is') (λ number rest' any' is''. held_gives kind number rest' is''))
      (λ h again. again))) tt

  snapshot_says : (kind : Kind) (body : List ℕ) (begun : ℕ × Held) → IsBytes body → snapshot_of kind body ≡ Some begun → AreMadeAgain begun.1.base.catalog
  unfolding snapshot_of
  snapshot_says kind body begun is e =
      end_says (λ (b : ℕ × Held). AreMadeAgain b.1.base.catalog) (and_then (generation_in kind) (number_of 1 body)) begun
      (says_given (λ (b : ℕ × Held). AreMadeAgain b.1.base.catalog) (and_then (generation_in kind) (number_of 1 body))
      (then_gives (λ n. Any n) (λ (b : ℕ × Held). AreMadeAgain b.1.base.catalog) (generation_in kind) (number_of 1 body) (number_gives 1 body is) (λ node rest any is'. generation_gives kind node rest is'))) e

  -- ---- an image

  file_says : (kind : Kind) (f : ℕ) (file : List ℕ) (begun : ℕ × Held) → IsBytes file → snapshot_in kind f file ≡ Some begun → AreMadeAgain begun.1.base.catalog
  file_says kind f file begun is e = whole (leb (9 + number_at 1 8 file) (length file)) e
    where
      its : (c : ℕ × Held) (b : Bool) → AreMadeAgain c.1.base.catalog → cond b (Some c) None ≡ Some begun → AreMadeAgain begun.1.base.catalog
      its c true again e = subst (λ (d : ℕ × Held). AreMadeAgain d.1.base.catalog) (ap (λ (o : Option (ℕ × Held)). elim o [ None ↦ c | Some d ↦ d ]) e) again
      its c false again e = cc

      by : (x : Option (ℕ × Held)) → snapshot_of kind (take (number_at 1 8 file) (drop 9 file)) ≡ x → option_and_then (of_file f) x ≡ Some begun → AreMadeAgain begun.1.base.catalog
      by None read e = cc
      by (Some c) read e =
          its c (eqb (c.0 % 2) f) (snapshot_says kind (take (number_at 1 8 file) (drop 9 file)) c (bytes_take (number_at 1 8 file) (drop 9 file) (bytes_drop 9 file is)) read) e

      whole : (b : Bool) → cond b (option_and_then (of_file f) (snapshot_of kind (take (number_at 1 8 file) (drop 9 file)))) None ≡ Some begun → AreMadeAgain begun.1.base.catalog
      whole true e = by (snapshot_of kind (take (number_at 1 8 file) (drop 9 file))) refl e
      whole false e = cc

  begun_says : (kind : Kind) (image : Image) (f : ℕ) (x : Option (ℕ × Held)) → IsBytes (image f) → begun_in kind image f ≡ Ok x → AreBegun x
  begun_says kind image f x is e = by (is_open (image f)) (snapshot_in kind f (image f)) refl e
    where
      by : (b : Bool) (s : Option (ℕ × Held)) → snapshot_in kind f (image f) ≡ s → cond b (begun_by f s) (Ok None) ≡ Ok x → AreBegun x
      by true None read e = cc
      by true (Some begun) read e = subst AreBegun (answer_is (Ok (Some begun)) (Some begun) x refl e) (file_says kind f (image f) begun is read)
      by false s read e = subst AreBegun (answer_is (Ok None) None x refl e) tt

  greater_says : (a b : Option (ℕ × Held)) → AreBegun a → AreBegun b → AreMadeAgain (greater a b).1.base.catalog
  greater_says None None p q = none
  greater_says (Some a) None p q = p
  greater_says None (Some b) p q = q
  greater_says (Some a) (Some b) p q = by (ltb a.0 b.0)
    where
      by : (t : Bool) → AreMadeAgain (cond t b a).1.base.catalog
      by true = q
      by false = p

  from_says : (kind : Kind) (image : Image) (begun : ℕ × Held) → IsImageOfBytes image → begun_from kind image ≡ Ok begun → AreMadeAgain begun.1.base.catalog
  unfolding begun_from
  from_says kind image begun is e = by (begun_in kind image 0) (begun_in kind image 1) refl refl e
    where
      by : (a b : Result (Option (ℕ × Held)) Spot) → begun_in kind image 0 ≡ a → begun_in kind image 1 ≡ b → greater_if a b ≡ Ok begun → AreMadeAgain begun.1.base.catalog
      by (Err spot) b p q e = cc
      by (Ok x) (Err spot) p q e = cc
      by (Ok x) (Ok y) p q e =
          subst (λ (c : ℕ × Held). AreMadeAgain c.1.base.catalog) (pair_is (Ok (greater x y)) (greater x y) begun refl e)
          (greater_says x y (begun_says kind image 0 x (is 0) p) (begun_says kind image 1 y (is 1) q))

  pub stands_again : (kind : Kind) (generation : ℕ) (image : Image) (held : Held) → IsImageOfBytes image → Stands kind generation image held → AreMadeAgain held.base.catalog
  stands_again kind generation image held is stands =
      bodies_still keeps kind stands.opened.bodies stands.begun held (bodies_are_bytes (image (journal_of generation)) (is (journal_of generation)) stands.opened stands.read)
      stands.made (from_says kind image (generation, stands.begun) is stands.from)
