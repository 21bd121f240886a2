-- Calls that only look and sync.
use Rattle.std.proofs.Common.{◌≡◌, ℕ, List, ◌++◌, length, take, drop, Option, Some, None, Result, Ok, Err, refl, ap, ◌∙◌, arith}
use Rattle.std.specs.Prelude.{IfSome, OnOk}
use Rattle.std.proofs.lemmas.List.{take_all, take_at}
use Rattle.disk_model.specs.declared.call.Call.TheVariants.{Look, Sync}
use Rattle.disk_model.specs.declared.refusals.DiskRefusal.{DiskRefusal}
use Rattle.disk_model.specs.Story.{Image, Story, count, seen}
use Rattle.disk_model.specs.Left.{Left}
use Rattle.disk_model.specs.Moments.{Each, Always, Only}
use Rattle.disk_model.specs.Claims.{Quietly}
use Rattle.disk_model.specs.Answers.{Tells, Reads}
use Rattle.disk_model.proofs.Laws.{left_apart, left_sync, seen_apart, seen_sync, only_synced}
use Rattle.disk_model.proofs.Moments.{since_start, since_map, since_join, always_less, on_refl, on_call, on_trans, on_count}

start : (t : Option Story) → Always (count t) t (λ image. (f : ℕ) → Left t f (image f))
start t = since_start t (λ n image. (f : ℕ) → Left t f (image f)) (λ image left. left)

pub quiet_none : (t : Option Story) → Quietly t t
quiet_none t = record { on = on_refl t; reads = λ f. refl; left = λ f c left. left; images = start t }

pub quiet_look : {A : Type 0} (t t' : Option Story) (r : Result A DiskRefusal) → Tells r (λ _. Look) t t' → Quietly t t'
quiet_look t t' r tells =
    let less : (f : ℕ) (c : List ℕ) → Left t' f c → Left t f c = λ f c left. left_apart t t' r (λ _. Look) f (λ done. refl) tells c left in
    record {
      on = on_call t t' r (λ _. Look) tells;
      reads = λ f. seen_apart t t' r (λ _. Look) f (λ done. refl) tells;
      left = less;
      images = always_less (count t) (λ image. (f : ℕ) → Left t f (image f)) t t' r (λ _. Look) tells less (omega arith) (start t);
    }

pub quiet_sync : {A : Type 0} (t t' : Option Story) (r : Result A DiskRefusal) (g : ℕ) → Tells r (λ done. Sync g done) t t' → Quietly t t'
quiet_sync t t' r g tells = record {
  on = on_call t t' r (λ done. Sync g done) tells;
  reads = seen_sync t t' r g tells;
  left = left_sync t t' r g tells;
  images = always_less (count t) (λ image. (f : ℕ) → Left t f (image f)) t t' r (λ done. Sync g done) tells (left_sync t t' r g tells) (omega arith) (start t);
}

pub quiet_always : (t u : Option Story) (P : Image → Type 0) → Each t P → Quietly t u → Always (count t) u P
quiet_always t u P each quiet = since_map (count t) u (λ n image. (f : ℕ) → Left t f (image f)) (λ n image. P image) (λ n image le ge left. each image left) quiet.images

pub quiet_trans : (t u v : Option Story) → Quietly t u → Quietly u v → Quietly t v
quiet_trans t u v p q = record {
  on = on_trans t u v p.on q.on;
  reads = λ f. q.reads f ∙ p.reads f;
  left = λ f c left. p.left f c (q.left f c left);
  images = since_join (count t) u v (λ n image. (f : ℕ) → Left t f (image f)) (on_count t u p.on) q.on p.images
      (quiet_always u v (λ image. (f : ℕ) → Left t f (image f)) (λ image left f. p.left f (image f) (left f)) q);
}

pub quiet_only : (t u : Option Story) (f : ℕ) (file : List ℕ) → Quietly t u → Only t f file → Only u f file
quiet_only t u f file quiet only c left = only c (quiet.left f c left)

pub settled_ok : {A : Type 0} (t t' : Option Story) (r : Result A DiskRefusal) (g : ℕ) → Tells r (λ done. Sync g done) t t' → OnOk r (Only t' g (seen t' g))
settled_ok t t' (Ok x) g tells = only_synced t t' g tells
settled_ok t t' (Err e) g tells = tt

-- ---- all bytes of a file

file_read : (t t' : Option Story) (f size n : ℕ) (buffer : List ℕ) → Quietly t t' → IfSome t (λ _. size ≡ length (seen t f)) → IfSome t' (λ _. Reads (seen t' f) 0 n buffer) → length buffer ≡ size → IfSome t (λ _. take n buffer ≡ seen t f)
file_read None t' f size n buffer quiet is reads len = tt
file_read (Some s) None f size n buffer quiet is reads len = absurd quiet.on
file_read (Some s) (Some s') f size n buffer quiet is reads len =
    let same = quiet.reads f in
    let all : n ≡ length (seen (Some s) f) = omega (arith, ap length same, reads.size) in
    reads.bytes ∙ ap (λ l. take n l) same ∙ take_all n (seen (Some s) f) (omega arith)

pub file_bytes : (t t' : Option Story) (f size n len : ℕ) (buffer items given : List ℕ) → Quietly t t' → IfSome t (λ _. size ≡ length (seen t f)) → IfSome t' (λ _. Reads (seen t' f) 0 n buffer) → length buffer ≡ len → len ≡ size
    → given ≡ take n (take len (buffer ++ drop (length buffer) items)) → IfSome t (λ _. given ≡ seen t f)
file_bytes None t' f size n len buffer items given quiet is reads long same made = tt
file_bytes (Some s) t' f size n len buffer items given quiet is reads long same made =
    made ∙ ap (λ l. take n l) (take_at buffer (drop (length buffer) items) len long) ∙ file_read (Some s) t' f size n buffer quiet is reads (long ∙ same)
