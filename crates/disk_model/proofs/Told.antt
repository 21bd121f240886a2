-- What is told is a story of bytes, and then each file reads as bytes.
use Rattle.std.proofs.Common.{◌≡◌, ℕ, List, [], ◌∷◌, ◌++◌, reverse, Option, Some, None, Result, Ok, Err, sym, ◌∙◌, ap, subst, arith}
use Rattle.std.specs.Prelude.{IfSome, OnOk, OnErr}
use Rattle.hex.specs.Hex.{IsBytes}
use Rattle.disk_model.specs.declared.call.Call.{Call}
use Rattle.disk_model.specs.Story.{Image, Story, seen, seen_after}
use Rattle.disk_model.specs.Left.{AreBytes, written_by}
use Rattle.disk_model.specs.Files.{files}
use Rattle.disk_model.proofs.Bytes.{bytes_within}
use Rattle.disk_model.proofs.Holding.{seen_held}
use Rattle.disk_model.proofs.Recorded.{newest}

-- ---- each file reads as bytes

pub seen_bytes : (first : Image) (calls : List Call) (f : ℕ) → AreBytes first calls → IsBytes (seen_after first calls f)
seen_bytes first calls f bytes = (seen_held first calls f bytes).bytes

pub told_bytes : (t : Option Story) → IfSome t (λ s. AreBytes s.first s.calls) → (f : ℕ) → IfSome t (λ _. IsBytes (seen t f))
told_bytes None bytes f = bytes
told_bytes (Some s) bytes f = seen_bytes s.first s.calls f bytes

-- ---- a file without bytes

pub no_bytes : IsBytes []
no_bytes = bytes_within [] (λ i lt. absurd (omega arith))

-- ---- a story that goes on

pub bytes_begin : (list : List (List ℕ)) (calls : List Call) → calls ≡ [] → ((f : ℕ) → IsBytes (files list f)) → AreBytes (files list) (reverse calls)
bytes_begin list calls none bytes = subst (λ cs. AreBytes (files list) (reverse cs)) (sym none) bytes

pub bytes_more : (first : Image) (calls now : List Call) (call : Call) → now ≡ calls ++ call ∷ [] → IsBytes (written_by call) → AreBytes first (reverse calls) → AreBytes first (reverse now)
bytes_more first calls now call is bytes so_far = subst (λ cs. AreBytes first cs) (sym (ap reverse is ∙ newest calls call)) (bytes, so_far)

pub bytes_same : (first : Image) (calls now : List Call) → now ≡ calls → AreBytes first (reverse calls) → AreBytes first (reverse now)
bytes_same first calls now is so_far = subst (λ cs. AreBytes first (reverse cs)) (sym is) so_far

pub bytes_kept : {A E : Type 0} (first : Image) (calls now : List Call) (call : Call) (r : Result A E) → IsBytes (written_by call)
    → OnOk r (now ≡ calls ++ call ∷ []) → OnErr r (now ≡ calls) → AreBytes first (reverse calls) → AreBytes first (reverse now)
bytes_kept first calls now call (Ok x) bytes ok err so_far = bytes_more first calls now call ok bytes so_far
bytes_kept first calls now call (Err e) bytes ok err so_far = bytes_same first calls now err so_far
