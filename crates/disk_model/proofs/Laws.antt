-- What one call more leaves and gives, in the form of a disk's clauses.
use Rattle.std.proofs.Common.{◌≡◌, ◌≢◌, ℕ, ◌+◌, ◌<◌, ◌≤◌, ◌^◌, Bool, true, false, ◌==◌, cond, List, ◌∷◌, length, nat_lt, Option, Some, None, Result, Ok, Err, refl, sym, ◌∙◌, ap, subst, arith, ◌⊎◌, inl, inr}
use Rattle.std.specs.Prelude.{IfSome}
use Rattle.std.proofs.lemmas.Bool.{eq-eqb, ne_eqb, cond-true, cond-false, lt-ltb}
use Rattle.hex.specs.Hex.{IsBytes}
use Rattle.disk_model.specs.declared.call.Call.{Call}
use Rattle.disk_model.specs.declared.call.Call.TheVariants.{Look, Write, Cut, Sync}
use Rattle.disk_model.specs.declared.refusals.DiskRefusal.{DiskRefusal}
use Rattle.disk_model.specs.declared.refusals.DiskRefusal.TheVariants.{Failed, NoMemory}
use Rattle.disk_model.specs.Story.{Image, Story, concerns, changed, overwritten, seen_after, then_call, count, seen}
use Rattle.disk_model.specs.Left.{MayHold, LeftAfter, Left, unsynced_after, then_done}
use Rattle.disk_model.specs.Torn.{Torn}
use Rattle.disk_model.specs.Moments.{begun, Only, GoesOn}
use Rattle.disk_model.specs.Answers.{Tells, write_call}
use Rattle.disk_model.proofs.Holding.{seen_held, synced_only, synced_bytes}
use Rattle.disk_model.proofs.Torn.{torn_none, torn_write}

pub seen_cons : (first : Image) (call : Call) (past : List Call) (f : ℕ) → seen_after first (call ∷ past) f ≡ cond (concerns call f) (changed call (seen_after first past f)) (seen_after first past f)
unfolding seen_after
seen_cons first call past f = refl

held_cons : (first : Image) (call : Call) (past : List Call) (f : ℕ) (c : List ℕ) → MayHold (unsynced_after first (call ∷ past) f) c → MayHold (cond (concerns call f) (then_done call (seen_after first past f) (unsynced_after first past f)) (unsynced_after first past f)) c
unfolding unsynced_after
held_cons first call past f c held = held

cons_held : (first : Image) (call : Call) (past : List Call) (f : ℕ) (c : List ℕ) → MayHold (cond (concerns call f) (then_done call (seen_after first past f) (unsynced_after first past f)) (unsynced_after first past f)) c → MayHold (unsynced_after first (call ∷ past) f) c
unfolding unsynced_after
cons_held first call past f c held = held

held_other : (b : Bool) (call : Call) (first : Image) (past : List Call) (f : ℕ) (c : List ℕ) → b ≡ false → MayHold (cond b (then_done call (seen_after first past f) (unsynced_after first past f)) (unsynced_after first past f)) c → MayHold (unsynced_after first past f) c
held_other b call first past f c e held = subst (λ b. MayHold (cond b (then_done call (seen_after first past f) (unsynced_after first past f)) (unsynced_after first past f)) c) e held

-- ---- a call that does not concern the file

pub seen_other : (first : Image) (call : Call) (past : List Call) (f : ℕ) → concerns call f ≡ false → seen_after first (call ∷ past) f ≡ seen_after first past f
seen_other first call past f other = seen_cons first call past f ∙ cond-false (concerns call f) (changed call (seen_after first past f)) (seen_after first past f) other

pub left_other : (first : Image) (call : Call) (past : List Call) (f : ℕ) (c : List ℕ) → concerns call f ≡ false → LeftAfter first (call ∷ past) f c → LeftAfter first past f c
left_other first call past f c other left = record { story = left.story.1; held = held_other (concerns call f) call first past f c other (held_cons first call past f c left.held) }

-- ---- a sync takes images away and adds none

sync_step : (b : Bool) (g : ℕ) (done : Bool) (first : Image) (past : List Call) (f : ℕ) (c : List ℕ) → MayHold (unsynced_after first past f) (seen_after first past f)
    → MayHold (cond b (then_done (Sync g done) (seen_after first past f) (unsynced_after first past f)) (unsynced_after first past f)) c → MayHold (unsynced_after first past f) c
sync_step true g true first past f c seen held = subst (λ d. MayHold (unsynced_after first past f) d) (sym (synced_only (seen_after first past f) c held)) seen
sync_step true g false first past f c seen held = held
sync_step false g done first past f c seen held = held

pub left_sync_call : (g : ℕ) (done : Bool) (first : Image) (past : List Call) (f : ℕ) (c : List ℕ) → LeftAfter first (Sync g done ∷ past) f c → LeftAfter first past f c
left_sync_call g done first past f c left = record {
  story = left.story.1;
  held = sync_step (g == f) g done first past f c (seen_held first past f left.story.1) (held_cons first (Sync g done) past f c left.held);
}

-- after a sync that succeeds the file is what a read gives
pub left_synced : (first : Image) (past : List Call) (f : ℕ) (c : List ℕ) → LeftAfter first (Sync f true ∷ past) f c → c ≡ seen_after first past f
left_synced first past f c left = synced_only (seen_after first past f) c
    (subst (λ b. MayHold (cond b (then_done (Sync f true) (seen_after first past f) (unsynced_after first past f)) (unsynced_after first past f)) c) (eq-eqb f f refl)
    (held_cons first (Sync f true) past f c left.held))

-- ---- a call as a crash inside it finds it leaves no more than the call, or than the calls before it

begun_step : (b : Bool) (g at : ℕ) (p : List ℕ) (done : Bool) (first : Image) (past : List Call) (f : ℕ) (c : List ℕ)
    → MayHold (cond b (then_done (Write g at p false) (seen_after first past f) (unsynced_after first past f)) (unsynced_after first past f)) c
    → MayHold (cond b (then_done (Write g at p done) (seen_after first past f) (unsynced_after first past f)) (unsynced_after first past f)) c
begun_step true g at p done first past f c held = held
begun_step false g at p done first past f c held = held

begun_cut : (b : Bool) (g n : ℕ) (done : Bool) (first : Image) (past : List Call) (f : ℕ) (c : List ℕ)
    → MayHold (cond b (then_done (Cut g n false) (seen_after first past f) (unsynced_after first past f)) (unsynced_after first past f)) c
    → MayHold (cond b (then_done (Cut g n done) (seen_after first past f) (unsynced_after first past f)) (unsynced_after first past f)) c
begun_cut true g n done first past f c held = held
begun_cut false g n done first past f c held = held

-- within the call the images of each file are those after it, or those before it
pub within_call : (first : Image) (past : List Call) (image : Image) (call : Call) → ((f : ℕ) → LeftAfter first (begun call ∷ past) f (image f))
    → ((f : ℕ) → LeftAfter first (call ∷ past) f (image f)) ⊎ ((f : ℕ) → LeftAfter first past f (image f))
within_call first past image Look left = inl left
within_call first past image (Write g at p done) left = inl (λ f. record {
  story = (left f).story;
  held = cons_held first (Write g at p done) past f (image f) (begun_step (g == f) g at p done first past f (image f) (held_cons first (Write g at p false) past f (image f) (left f).held));
})
within_call first past image (Cut g n done) left = inl (λ f. record {
  story = (left f).story;
  held = cons_held first (Cut g n done) past f (image f) (begun_cut (g == f) g n done first past f (image f) (held_cons first (Cut g n false) past f (image f) (left f).held));
})
within_call first past image (Sync g done) left = inr (λ f. left_sync_call g false first past f (image f) (left f))

-- ---- in the form of the clauses of a disk

-- a call that leaves no more of a file than was left before
less_call : {A : Type 0} (t t' : Option Story) (r : Result A DiskRefusal) (call : Bool → Call) (f : ℕ) (c : List ℕ)
    → ((done : Bool) (first : Image) (past : List Call) → LeftAfter first (call done ∷ past) f c → LeftAfter first past f c) → Tells r call t t' → Left t' f c → Left t f c
less_call None t' (Ok x) call f c less tells left = absurd (subst (λ u. Left u f c) tells left)
less_call None t' (Err Failed) call f c less tells left = absurd (subst (λ u. Left u f c) tells left)
less_call t t' (Err NoMemory) call f c less tells left = subst (λ u. Left u f c) tells left
less_call (Some s) t' (Ok x) call f c less tells left = less true s.first s.calls (subst (λ u. Left u f c) tells left)
less_call (Some s) t' (Err Failed) call f c less tells left = less false s.first s.calls (subst (λ u. Left u f c) tells left)

-- a call on another file, or one that only looks
pub left_apart : {A : Type 0} (t t' : Option Story) (r : Result A DiskRefusal) (call : Bool → Call) (f : ℕ) → ((done : Bool) → concerns (call done) f ≡ false) → Tells r call t t' → (c : List ℕ) → Left t' f c → Left t f c
left_apart t t' r call f other tells c left = less_call t t' r call f c (λ done first past. left_other first (call done) past f c (other done)) tells left

pub left_sync : {A : Type 0} (t t' : Option Story) (r : Result A DiskRefusal) (g : ℕ) → Tells r (λ done. Sync g done) t t' → (f : ℕ) (c : List ℕ) → Left t' f c → Left t f c
left_sync t t' r g tells f c left = less_call t t' r (λ done. Sync g done) f c (λ done first past. left_sync_call g done first past f c) tells left

-- what is read stays
same_call : {A : Type 0} (t t' : Option Story) (r : Result A DiskRefusal) (call : Bool → Call) (f : ℕ)
    → ((done : Bool) (first : Image) (past : List Call) → seen_after first (call done ∷ past) f ≡ seen_after first past f) → Tells r call t t' → seen t' f ≡ seen t f
same_call t t' (Err NoMemory) call f same tells = ap (λ u. seen u f) tells
same_call None t' (Ok x) call f same tells = ap (λ u. seen u f) tells
same_call None t' (Err Failed) call f same tells = ap (λ u. seen u f) tells
same_call (Some s) t' (Ok x) call f same tells = ap (λ u. seen u f) tells ∙ same true s.first s.calls
same_call (Some s) t' (Err Failed) call f same tells = ap (λ u. seen u f) tells ∙ same false s.first s.calls

pub seen_apart : {A : Type 0} (t t' : Option Story) (r : Result A DiskRefusal) (call : Bool → Call) (f : ℕ) → ((done : Bool) → concerns (call done) f ≡ false) → Tells r call t t' → seen t' f ≡ seen t f
seen_apart t t' r call f other tells = same_call t t' r call f (λ done first past. seen_other first (call done) past f (other done)) tells

sync_same : (b : Bool) (g : ℕ) (done : Bool) (file : List ℕ) → cond b (changed (Sync g done) file) file ≡ file
sync_same true g done file = refl
sync_same false g done file = refl

pub seen_sync : {A : Type 0} (t t' : Option Story) (r : Result A DiskRefusal) (g : ℕ) → Tells r (λ done. Sync g done) t t' → (f : ℕ) → seen t' f ≡ seen t f
seen_sync t t' r g tells f = same_call t t' r (λ done. Sync g done) f (λ done first past. seen_cons first (Sync g done) past f ∙ sync_same (g == f) g done (seen_after first past f)) tells

-- ---- a write over a durable file

apart_write : (b : Bool) (g at : ℕ) (p : List ℕ) (done : Bool) (f : ℕ) → (g == f) ≡ false → concerns (cond b (Write g at p done) Look) f ≡ false
apart_write true g at p done f e = e
apart_write false g at p done f e = refl

pub write_apart : (g at : ℕ) (p : List ℕ) (f : ℕ) → f ≢ g → (done : Bool) → concerns (write_call g at p done) f ≡ false
write_apart g at p f ne done = apart_write (nat_lt (at + length p) (2 ^ 64)) g at p done f (ne_eqb g f (λ e. ne (sym e)))

module _ (first : Image) (past : List Call) (f at : ℕ) (p : List ℕ) (only : (d : List ℕ) → LeftAfter first past f d → d ≡ seen_after first past f) (within : at ≤ length (seen_after first past f)) where
  pub torn_done : (done : Bool) (c : List ℕ) → LeftAfter first (Write f at p done ∷ past) f c → Torn at (length p) (seen_after first past f) c
  torn_done done c left =
      let now = seen_held first past f left.story.1 in
      torn_write (unsynced_after first past f) (seen_after first past f) (λ d held. only d (record { story = left.story.1; held = held }))
      (synced_bytes first past f left.story.1) (omega (arith, now.no_shorter, now.no_longer)) f at p done (seen_after first past f) c
      (subst (λ b. MayHold (cond b (then_done (Write f at p done) (seen_after first past f) (unsynced_after first past f)) (unsynced_after first past f)) c) (eq-eqb f f refl)
      (held_cons first (Write f at p done) past f c left.held)) within

  torn_looked : (c : List ℕ) → LeftAfter first (Look ∷ past) f c → Torn at (length p) (seen_after first past f) c
  torn_looked c left = subst (λ d. Torn at (length p) d c) (only c (left_other first Look past f c refl left)) (torn_none at (length p) c left.held.bytes)

  torn_call : (b done : Bool) (c : List ℕ) → LeftAfter first (cond b (Write f at p done) Look ∷ past) f c → Torn at (length p) (seen_after first past f) c
  torn_call true done c left = torn_done done c left
  torn_call false done c left = torn_looked c left

pub left_write : {A : Type 0} (t t' : Option Story) (r : Result A DiskRefusal) (f at : ℕ) (p : List ℕ) → Only t f (seen t f) → IfSome t (λ _. at ≤ length (seen t f)) → Tells r (write_call f at p) t t'
    → (c : List ℕ) → Left t' f c → Torn at (length p) (seen t f) c
left_write None t' (Ok x) f at p only within tells c left = absurd (subst (λ u. Left u f c) tells left)
left_write None t' (Err Failed) f at p only within tells c left = absurd (subst (λ u. Left u f c) tells left)
left_write None t' (Err NoMemory) f at p only within tells c left = absurd (subst (λ u. Left u f c) tells left)
left_write (Some s) t' (Ok x) f at p only within tells c left = torn_call s.first s.calls f at p only within (nat_lt (at + length p) (2 ^ 64)) true c (subst (λ u. Left u f c) tells left)
left_write (Some s) t' (Err Failed) f at p only within tells c left = torn_call s.first s.calls f at p only within (nat_lt (at + length p) (2 ^ 64)) false c (subst (λ u. Left u f c) tells left)
left_write (Some s) t' (Err NoMemory) f at p only within tells c left =
    let old : LeftAfter s.first s.calls f c = subst (λ u. Left u f c) tells left in
    subst (λ d. Torn at (length p) d c) (only c old) (torn_none at (length p) c old.held.bytes)

-- what a read gives after a write that is done
pub seen_written : (t t' : Option Story) (f at : ℕ) (p : List ℕ) → at + length p < 2 ^ 64 → t' ≡ then_call (write_call f at p true) t → IfSome t (λ _. seen t' f ≡ overwritten at p (seen t f))
seen_written None t' f at p room tells = tt
seen_written (Some s) t' f at p room tells =
    let call : write_call f at p true ≡ Write f at p true = cond-true (nat_lt (at + length p) (2 ^ 64)) (Write f at p true) Look (lt-ltb (at + length p) (2 ^ 64) room) in
    ap (λ u. seen u f) tells ∙ ap (λ call. seen_after s.first (call ∷ s.calls) f) call ∙ seen_cons s.first (Write f at p true) s.calls f
    ∙ cond-true (f == f) (overwritten at p (seen_after s.first s.calls f)) (seen_after s.first s.calls f) (eq-eqb f f refl)

-- after a sync the file's only image is what a read gives
pub only_synced : (t t' : Option Story) (g : ℕ) → t' ≡ then_call (Sync g true) t → Only t' g (seen t' g)
only_synced None t' g tells c left = absurd (subst (λ u. Left u g c) tells left)
only_synced (Some s) t' g tells c left =
    let now : LeftAfter s.first (Sync g true ∷ s.calls) g c = subst (λ u. Left u g c) tells left in
    synced_only (seen_after s.first s.calls g) c
    (subst (λ b. MayHold (cond b (then_done (Sync g true) (seen_after s.first s.calls g) (unsynced_after s.first s.calls g)) (unsynced_after s.first s.calls g)) c) (eq-eqb g g refl)
    (held_cons s.first (Sync g true) s.calls g c now.held))
    ∙ sym (ap (λ u. seen u g) tells ∙ seen_cons s.first (Sync g true) s.calls g ∙ sync_same (g == g) g true (seen_after s.first s.calls g))

-- ---- what holds where the disk tells

-- what a read gives may be left where anything is
pub seen_left : (t : Option Story) (f : ℕ) (c : List ℕ) → Left t f c → Left t f (seen t f)
seen_left None f c left = left
seen_left (Some s) f c left = record { story = left.story; held = seen_held s.first s.calls f left.story }

-- an image is left only where it does
pub by_left : (t : Option Story) (f : ℕ) (c : List ℕ) (X : Type 0) → IfSome t (λ s. X) → Left t f c → X
by_left None f c X told left = absurd left
by_left (Some s) f c X told left = told

pub left_bytes : (t : Option Story) (f : ℕ) (c : List ℕ) → Left t f c → IsBytes c
left_bytes None f c left = absurd left
left_bytes (Some s) f c left = left.held.bytes

-- from one moment's told fact to a later fact
pub if_on : (t u : Option Story) (X Y : Type 0) → GoesOn t u → IfSome t (λ s. X) → (X → Y) → IfSome u (λ s. Y)
if_on t None X Y on told f = tt
if_on None (Some u) X Y on told f = absurd on
if_on (Some s) (Some u) X Y on told f = f told

pub if_both : (t : Option Story) (X Y Z : Type 0) → IfSome t (λ s. X) → IfSome t (λ s. Y) → (X → Y → Z) → IfSome t (λ s. Z)
if_both None X Y Z x y f = tt
if_both (Some s) X Y Z x y f = f x y

pub if_all : (t : Option Story) (X : Type 0) → X → IfSome t (λ s. X)
if_all None X x = tt
if_all (Some s) X x = x

pub count_two : (t t' t'' : Option Story) (call call' : Call) → t' ≡ then_call call t → t'' ≡ then_call call' t' → IfSome t (λ s. count t'' ≡ count t + 2)
count_two None t' t'' call call' one two = tt
count_two (Some s) t' t'' call call' one two = ap count (two ∙ ap (λ u. then_call call' u) one) ∙ omega arith
