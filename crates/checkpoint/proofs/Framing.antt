-- A snapshot, made part by part.
use Rattle.std.proofs.Common.{◌≡◌, ℕ, zero, suc, ◌+◌, ◌-◌, ◌≤◌, ◌<◌, ◌^◌, List, [], ◌∷◌, ◌++◌, length, take, drop, refl, sym, ap, subst, ◌∙◌, append_assoc, arith}
use Rattle.std.specs.Prelude.{slice_set}
use Rattle.std.proofs.Math.ListN.{get_or}
use Rattle.std.proofs.Math.Seq.{drop-append_seam}
use Rattle.std.proofs.lemmas.List.{length-append, length-map}
use Rattle.byte_fields.specs.Field.{number_bytes}
use Rattle.table_rules.specs.Stores.{Store as Rows}
use Rattle.snapshot_bodies.specs.catalog_show_create.catalog_objects.declared.object.Object.{Object}
use Rattle.snapshot_bodies.specs.catalog_show_create.catalog_objects.Keys.{seen}
use Rattle.store_model.specs.log_model.Log.{LogPlace}
use Rattle.store_model.specs.declared.record.Kind.{Kind}
use Rattle.store_model.specs.Held.{Held}
use Rattle.store_model.specs.Snapshots.{base_bytes, node_of, places_bytes, snapshot_body}
use Rattle.commit_store.specs.declared.store.Store.{Store}
use Rattle.checkpoint_model.specs.Pieces.{snapshot_framed}
use Rattle.checkpoint.specs.Checkpoints.{HasSizes, held_kept}

-- three parts, one behind the other
three_parts : (out one two three a b c : List ℕ) → one ≡ out ++ a → two ≡ one ++ b → three ≡ two ++ c → three ≡ out ++ (a ++ b ++ c)
three_parts out one two three a b c first second third =
    third ∙ ap (λ l. l ++ c) (second ∙ ap (λ l. l ++ b) first ∙ append_assoc out a b) ∙ append_assoc out (a ++ b) c

-- a body by its parts, with node and number as a store's readers give them
pub body_made : (kind node : Kind) (generation number : ℕ) (held : Held) (out one two three : List ℕ) → node ≡ kind → number ≡ held.number
    → one ≡ out ++ (number_bytes 1 (node_of node) ++ number_bytes 8 generation ++ number_bytes 8 number) → two ≡ one ++ places_bytes node held → three ≡ two ++ base_bytes held.base
    → three ≡ out ++ snapshot_body kind generation held
unfolding snapshot_body
body_made kind node generation number held out one two three node_is number_is first second third =
    three_parts out one two three
    (number_bytes 1 (node_of node) ++ number_bytes 8 generation ++ number_bytes 8 number) (places_bytes node held) (base_bytes held.base) first second third
    ∙ ap (λ n. out ++ (number_bytes 1 (node_of node) ++ number_bytes 8 generation ++ number_bytes 8 n ++ places_bytes node held ++ base_bytes held.base)) number_is
    ∙ ap (λ k. out ++ snapshot_body k generation held) node_is

abbrev place_at : (log pos : ℕ) → LogPlace
place_at log pos = record { log = log; pos = pos }

pub same_place : (log log' pos pos' : ℕ) → log' ≡ log → pos' ≡ pos → place_at log pos ≡ place_at log' pos'
same_place log log' pos pos' logs positions = ap (λ l. place_at l pos) (sym logs) ∙ ap (place_at log') (sym positions)

-- a byte of a number in its place
pub put_next : (field bytes : List ℕ) (i d : ℕ) → i < length field → length field ≤ length bytes
    → slice_set (take i field ++ drop i bytes) i (get_or field i d) ≡ take (i + 1) field ++ drop (i + 1) bytes
put_next [] bytes i d within long = absurd (omega (arith, within))
put_next (f ∷ field) [] i d within long = absurd (omega (arith, long))
put_next (f ∷ field) (b ∷ bytes) zero d within long = refl
put_next (f ∷ field) (b ∷ bytes) (suc i) d within long =
    let one : suc i + 1 ≡ suc (i + 1) = omega arith in
    ap (λ l. f ∷ l) (put_next field bytes i d (omega (arith, within)) (omega (arith, long))) ∙ ap (λ n. take n (f ∷ field) ++ drop n (b ∷ bytes)) (sym one)

-- a body behind eight bytes, into which its length was written
pub framed_ok : (given bytes none body : List ℕ) (count : ℕ) → given ≡ number_bytes 8 count ++ drop 8 bytes → bytes ≡ none ++ body → length none ≡ 8 → count ≡ length bytes - 8
    → given ≡ snapshot_framed body
framed_ok given bytes none body count written is eight counted =
    written ∙ ap (λ (l : List ℕ). number_bytes 8 count ++ l) (ap (drop 8) is ∙ subst (λ n. drop n (none ++ body) ≡ body) eight (drop-append_seam none body))
    ∙ ap (λ n. number_bytes 8 n ++ body) (omega (arith, counted, eight, ap length is, length-append none body))

-- ... and it has sizes that its fields can say
pub sizes_ok : (kind : Kind) (generation : ℕ) (store : Store) (tables : Rows) (objects : List Object) (bytes none : List ℕ) → length bytes < 2 ^ 64
    → bytes ≡ none ++ snapshot_body kind generation (held_kept store tables objects) → length objects < 2 ^ 32 → HasSizes kind generation (held_kept store tables objects)
sizes_ok kind generation store tables objects bytes none fits is few =
    let body : List ℕ = snapshot_body kind generation (held_kept store tables objects) in record {
      body = omega (arith, fits, ap length is, length-append none body);
      objects = subst (λ n. n < 2 ^ 32) (sym (length-map objects seen)) few;
    }
