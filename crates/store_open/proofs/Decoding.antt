-- The file and the body of a snapshot, as they are read.
use Rattle.std.proofs.Common.{◌≡◌, ℕ, ◌+◌, ◌-◌, ◌<◌, ◌≤◌, ◌%◌, Bool, true, false, cond, eqb, leb, List, [], ◌∷◌, length, take, drop, Option, Some, None, Result, Ok, Err, refl, sym, ap, ◌∙◌, arith}
use Rattle.std.specs.Prelude.{IfSome}
use Rattle.std.specs.Option.{option_map, option_and_then}
use Rattle.std.proofs.lemmas.Bool.{cond-true, cond-false, le-leb, lt-leb, eq-eqb, ne_eqb}
use Rattle.byte_fields.specs.Field.{number_at}
use Rattle.disk_model.specs.Story.{Image, Story, seen}
use Rattle.disk_model.specs.Claims.{Quietly}
use Rattle.store_model.specs.log_model.Images.{Read, and_then}
use Rattle.store_model.specs.declared.record.Kind.{Kind}
use Rattle.store_model.specs.Reading.{read_as, to_the_end, number_of}
use Rattle.store_model.specs.Held.{Held}
use Rattle.store_model.specs.Snapshots.{node_of, held_in, generation_in, snapshot_of, is_open, of_file, snapshot_in}
use Rattle.store_model.specs.Stores.{Spot, begun_by, begun_in}
use Rattle.prog_work.specs.Contents.{Contents, base_of}
use Rattle.store_load.specs.declared.reached.Reached.{Reached}
use Rattle.store_load.specs.declared.stored.Stored.{Stored}
use Rattle.store_load.specs.Loading.{held_in as held_in_store, held_of}
use Rattle.store_open.specs.Begun.{body_in, generation_behind}

-- ---- the body that stands in a file

pub body_whole : (file : List ℕ) (size : ℕ) → size ≡ number_at 1 8 file → 9 + size ≤ length file → body_in file ≡ Some (take size (drop 9 file))
body_whole file size is le =
    cond-true (leb (9 + number_at 1 8 file) (length file)) (Some (take (number_at 1 8 file) (drop 9 file))) None (le-leb (9 + number_at 1 8 file) (length file) (omega (arith, is)))
    ∙ ap (λ (n : ℕ). Some (take n (drop 9 file))) (sym is)

pub body_short : (file : List ℕ) → length file < 9 + number_at 1 8 file → body_in file ≡ None
body_short file lt =
    cond-false (leb (9 + number_at 1 8 file) (length file)) (Some (take (number_at 1 8 file) (drop 9 file))) None (lt-leb (9 + number_at 1 8 file) (length file) lt)

-- ---- the snapshot of a file

through : {A B : Type 0} (make : A → Option B) (b : Bool) (x : A) → cond b (make x) None ≡ option_and_then make (cond b (Some x) None)
through make true x = refl
through make false x = refl

snapshot_by : (kind : Kind) (f : ℕ) (file : List ℕ) → snapshot_in kind f file ≡ option_and_then (λ (body : List ℕ). option_and_then (of_file f) (snapshot_of kind body)) (body_in file)
snapshot_by kind f file =
    through (λ (body : List ℕ). option_and_then (of_file f) (snapshot_of kind body)) (leb (9 + number_at 1 8 file) (length file)) (take (number_at 1 8 file) (drop 9 file))

pub not_whole : (kind : Kind) (f : ℕ) (file : List ℕ) → body_in file ≡ None → snapshot_in kind f file ≡ None
not_whole kind f file none = snapshot_by kind f file ∙ ap (option_and_then (λ (body : List ℕ). option_and_then (of_file f) (snapshot_of kind body))) none

module _ (kind : Kind) (f : ℕ) (file body : List ℕ) (whole : body_in file ≡ Some body) where
  decoded : (o : Option (ℕ × Held)) → snapshot_of kind body ≡ o → snapshot_in kind f file ≡ option_and_then (of_file f) o
  decoded o is =
      snapshot_by kind f file ∙ ap (option_and_then (λ (b : List ℕ). option_and_then (of_file f) (snapshot_of kind b))) whole ∙ ap (option_and_then (of_file f)) is

  pub not_decoded : snapshot_of kind body ≡ None → snapshot_in kind f file ≡ None
  not_decoded none = decoded None none

  pub is_of_file : (begun : ℕ × Held) → snapshot_of kind body ≡ Some begun → begun.0 % 2 ≡ f → snapshot_in kind f file ≡ Some begun
  is_of_file begun is same = decoded (Some begun) is ∙ cond-true (eqb (begun.0 % 2) f) (Some begun) None (eq-eqb (begun.0 % 2) f same)

  pub not_of_file : (begun : ℕ × Held) → snapshot_of kind body ≡ Some begun → (begun.0 % 2 ≡ f → ⊥) → snapshot_in kind f file ≡ None
  not_of_file begun is other = decoded (Some begun) is ∙ cond-false (eqb (begun.0 % 2) f) (Some begun) None (ne_eqb (begun.0 % 2) f other)

-- ---- what a disk begins with in a file

pub contents_read : (u : Option Story) (f : ℕ) (bytes contents : List ℕ) → contents ≡ bytes → IfSome u (λ _. bytes ≡ seen u f) → IfSome u (λ _. contents ≡ seen u f)
contents_read None f bytes contents same read = tt
contents_read (Some s) f bytes contents same read = same ∙ read

pub begun_so : (t u : Option Story) (kind : Kind) (f : ℕ) (bytes : List ℕ) (open_so : Bool) (o : Option (ℕ × Held)) → Quietly t u → IfSome u (λ _. bytes ≡ seen u f) → is_open bytes ≡ open_so
    → snapshot_in kind f bytes ≡ o → IfSome t (λ _. begun_in kind (seen t) f ≡ cond open_so (begun_by f o) (Ok None))
begun_so None u kind f bytes open_so o quiet read is made = tt
begun_so (Some s) None kind f bytes open_so o quiet read is made = absurd quiet.on
begun_so (Some s) (Some v) kind f bytes open_so o quiet read is made =
    ap (λ (file : List ℕ). cond (is_open file) (begun_by f (snapshot_in kind f file)) (Ok None)) (sym (read ∙ quiet.reads f))
    ∙ ap (λ (b : Bool). cond b (begun_by f (snapshot_in kind f bytes)) (Ok None)) is ∙ ap (λ (p : Option (ℕ × Held)). cond open_so (begun_by f p) (Ok None)) made

pub closed_so : (t u : Option Story) (kind : Kind) (f : ℕ) (bytes : List ℕ) → Quietly t u → IfSome u (λ _. bytes ≡ seen u f) → is_open bytes ≡ false → IfSome t (λ _. begun_in kind (seen t) f ≡ Ok None)
closed_so t u kind f bytes quiet read is = begun_so t u kind f bytes false (snapshot_in kind f bytes) quiet read is refl

pub open_so : (t u : Option Story) (kind : Kind) (f : ℕ) (bytes : List ℕ) (o : Option (ℕ × Held)) → Quietly t u → IfSome u (λ _. bytes ≡ seen u f) → is_open bytes ≡ true → snapshot_in kind f bytes ≡ o
    → IfSome t (λ _. begun_in kind (seen t) f ≡ begun_by f o)
open_so t u kind f bytes o quiet read is made = begun_so t u kind f bytes true o quiet read is made

-- ---- the body

abbrev parts : Kind → ℕ → List ℕ → Read (ℕ × Held)
parts kind generation bytes = read_as (λ (h : Held). (generation, h)) (and_then (held_in kind) (number_of 8 bytes))

generation_by : (kind : Kind) (rest : List ℕ) (b : Bool) → cond b (and_then (parts kind) (number_of 8 rest)) None ≡ and_then (parts kind) (cond b (number_of 8 rest) None)
generation_by kind rest true = refl
generation_by kind rest false = refl

front_by : (kind : Kind) (front : Read ℕ) → and_then (generation_in kind) front ≡ and_then (parts kind) (and_then (λ node rest. cond (eqb node (node_of kind)) (number_of 8 rest) None) front)
front_by kind None = refl
front_by kind (Some r) = generation_by kind r.1 (eqb r.0 (node_of kind))

body_by : (kind : Kind) (body : List ℕ) (r : Read ℕ) → generation_behind kind body ≡ r → snapshot_of kind body ≡ to_the_end (and_then (parts kind) r)
unfolding snapshot_of
body_by kind body r is =
    ap (λ (p : Read (ℕ × Held)). to_the_end p) (front_by kind (number_of 1 body)) ∙ ap (λ (p : Read ℕ). to_the_end (and_then (parts kind) p)) is

pub no_generation : (kind : Kind) (body : List ℕ) → generation_behind kind body ≡ None → snapshot_of kind body ≡ None
no_generation kind body is = body_by kind body None is

module _ (kind : Kind) (body : List ℕ) (generation : ℕ) (behind : List ℕ) (is : generation_behind kind body ≡ Some (generation, behind)) where
  numbered : (r : Read ℕ) → number_of 8 behind ≡ r → snapshot_of kind body ≡ to_the_end (read_as (λ (h : Held). (generation, h)) (and_then (held_in kind) r))
  numbered r e = body_by kind body (Some (generation, behind)) is ∙ ap (λ (p : Read ℕ). to_the_end (read_as (λ (h : Held). (generation, h)) (and_then (held_in kind) p))) e

  pub no_number : number_of 8 behind ≡ None → snapshot_of kind body ≡ None
  no_number e = numbered None e

  module _ (number : ℕ) (bytes : List ℕ) (e : number_of 8 behind ≡ Some (number, bytes)) where
    held : (r : Read Held) → held_in kind number bytes ≡ r → snapshot_of kind body ≡ to_the_end (read_as (λ (h : Held). (generation, h)) r)
    held r made = numbered (Some (number, bytes)) e ∙ ap (λ (p : Read Held). to_the_end (read_as (λ (h : Held). (generation, h)) p)) made

    pub none_held : held_in kind number bytes ≡ None → snapshot_of kind body ≡ None
    none_held made = held None made

    pub more_behind : (h : Held) (rest : List ℕ) → held_in kind number bytes ≡ Some (h, rest) → eqb (length rest) 0 ≡ false → snapshot_of kind body ≡ None
    more_behind h [] made some = cc
    more_behind h (b ∷ rest) made some = held (Some (h, b ∷ rest)) made

    pub is_held : (h : Held) (rest : List ℕ) → held_in kind number bytes ≡ Some (h, rest) → eqb (length rest) 0 ≡ true → snapshot_of kind body ≡ Some (generation, h)
    is_held h [] made none = held (Some (h, [])) made
    is_held h (b ∷ rest) made none =
        let some : eqb (length (b ∷ rest)) 0 ≡ false = ne_eqb _ _ (λ e. omega arith) in
        cc

abbrev begun_at : ℕ → Held → Option (ℕ × Held)
begun_at generation h = Some (generation, h)

-- what was read, as a store has it
pub begun_is : (s : Stored) (work : Contents) (generation : ℕ) (reached : Reached) → s.generation ≡ generation → s.work ≡ work → s.reached ≡ reached
    → begun_at s.generation (held_in_store s) ≡ begun_at generation (held_of (base_of work) reached)
begun_is s work generation reached g e r =
    ap (λ (n : ℕ). begun_at n (held_in_store s)) g ∙ ap (λ (c : Contents). begun_at generation (held_of (base_of c) s.reached)) e
    ∙ ap (λ (q : Reached). begun_at generation (held_of (base_of work) q)) r
