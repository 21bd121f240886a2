-- What a relay keeps true where it grows and where it is passed.
use Rattle.std.proofs.Common.{◌≡◌, ◌≤◌, ◌<◌, ◌^◌, ℕ, ◌+◌, ◌-◌, List, ◌++◌, length, drop, length-drop, append_assoc, sym, ap, ◌∙◌, arith, subst}
use Rattle.std.proofs.lemmas.List.{drop-drop, drop-append-le, length-append}
use Rattle.log_groups.specs.log_model.Groups.{Group, group, group_at}
use Rattle.log_groups.specs.log_model.Log.{LogPlace, moved}
use Rattle.replica_model.specs.Replica.{behind_group, size_of}
use Rattle.log_groups.proofs.of_log_group_laws.Lying.{group_lies}
use Rattle.relay_log.specs.declared.place.Walk.{Walk}
use Rattle.relay_log.specs.Reaching.{ahead_of, Fetched, IsAhead, IsKept, past_all, place_seen, Reaches}
use Rattle.relay_log.proofs.Leading.{ends_low, past_reached, reaches_back, reaches_group, reaches_here, reaches_on}

-- ---- ahead

-- behind a group that stands ahead
pub ahead_on : (f : Fetched) (here next : Walk) (g : Group) → IsAhead f here → group_at (ahead_of f here) ≡ group g → place_seen next.place ≡ behind_group (place_seen here.place) g
    → next.passed ≡ here.passed + size_of g → IsAhead f next
ahead_on f here next g ahead is place passed =
    let lies = group_lies (drop here.passed f.bytes) here.place.pos g is in
    let reaches : Reaches f.place f.bytes (here.passed + size_of g) (behind_group (place_seen here.place) g) =
    reaches_on f.place (place_seen here.place) (behind_group (place_seen here.place) g) f.bytes here.passed (size_of g) ahead.reaches (reaches_group (place_seen here.place) (drop here.passed f.bytes) g is) in
    record {
      within = omega (arith, passed, ahead.within, length-drop here.passed f.bytes, lies.begins, lies.within);
      reaches = subst (λ (n : ℕ). Reaches f.place f.bytes n (place_seen next.place)) (sym passed)
          (subst (λ (p : LogPlace). Reaches f.place f.bytes (here.passed + size_of g) p) (sym place) reaches);
    }

-- the sum of what was passed stays within what can be counted
pub sum_low : (f : Fetched) (here : Walk) (g : Group) (most : ℕ) → IsAhead f here → group_at (ahead_of f here) ≡ group g → length f.bytes < most → here.passed + (g.end - g.begin) < most
sum_low f here g most ahead is few =
    let lies = group_lies (drop here.passed f.bytes) here.place.pos g is in
    omega (arith, few, ahead.within, length-drop here.passed f.bytes, lies.begins, lies.within)

-- ---- passed

-- what is left behind a place ahead
abbrev pub behind_of : Fetched → Walk → Fetched
behind_of f to = record { place = place_seen to.place; bytes = drop to.passed f.bytes }

fits_on : (f : Fetched) (walked to : Walk) → IsKept f walked → IsAhead f to → (past_all (place_seen to.place) (drop to.passed f.bytes)).pos < 2 ^ 32
fits_on f walked to kept ahead =
    subst (λ (p : LogPlace). p.pos < 2 ^ 32) (past_reached f.place (place_seen to.place) f.bytes to.passed ahead.reaches) kept.fits

-- the place that was walked to is passed
pub kept_anew : (f : Fetched) (walked to : Walk) → IsKept f walked → IsAhead f to → IsKept (behind_of f to) (record { place = to.place; passed = 0 })
kept_anew f walked to kept ahead = record {
  ahead = record { within = omega arith; reaches = reaches_here (place_seen to.place) (drop to.passed f.bytes) };
  fits = fits_on f walked to kept ahead;
}

-- or it is still ahead
pub kept_on : (f : Fetched) (walked to : Walk) → IsKept f walked → IsAhead f to → to.passed ≤ walked.passed
    → IsKept (behind_of f to) (record { place = walked.place; passed = walked.passed - to.passed })
kept_on f walked to kept ahead low =
    let sum : walked.passed ≡ to.passed + (walked.passed - to.passed) = omega (arith, low) in
    let whole : Reaches f.place f.bytes (to.passed + (walked.passed - to.passed)) (place_seen walked.place) =
    subst (λ (n : ℕ). Reaches f.place f.bytes n (place_seen walked.place)) sum kept.ahead.reaches in
    record {
      ahead = record {
        within = omega (arith, low, kept.ahead.within, length-drop to.passed f.bytes);
        reaches = reaches_back f.place (place_seen to.place) (place_seen walked.place) f.bytes to.passed (walked.passed - to.passed) ahead.reaches whole;
      };
      fits = fits_on f walked to kept ahead;
    }

-- ---- walked on

-- a walk from where an earlier one ended
pub record IsWalk (f : Fetched) (walked end : Walk) : Type 0 where
  pub within : end.passed ≤ length (drop walked.passed f.bytes)
  pub reaches : Reaches (place_seen walked.place) (drop walked.passed f.bytes) end.passed (place_seen end.place)
  pub ends : past_all (place_seen end.place) (drop end.passed (drop walked.passed f.bytes)) ≡ moved (place_seen end.place) (length (drop walked.passed f.bytes) - end.passed)

abbrev both : Walk → Walk → Walk
both walked end = record { place = end.place; passed = walked.passed + end.passed }

pub wanted : (f : Fetched) (walked end : Walk) → IsKept f walked → IsWalk f walked end
    → past_all f.place f.bytes ≡ moved (place_seen end.place) (length (drop walked.passed f.bytes) - end.passed)
wanted f walked end kept walk =
    past_reached f.place (place_seen walked.place) f.bytes walked.passed kept.ahead.reaches
    ∙ past_reached (place_seen walked.place) (place_seen end.place) (drop walked.passed f.bytes) end.passed walk.reaches
    ∙ walk.ends

ahead_both : (f : Fetched) (walked end : Walk) → IsKept f walked → IsWalk f walked end → IsAhead f (both walked end)
ahead_both f walked end kept walk = record {
  within = omega (arith, walk.within, kept.ahead.within, length-drop walked.passed f.bytes);
  reaches = reaches_on f.place (place_seen walked.place) (place_seen end.place) f.bytes walked.passed end.passed kept.ahead.reaches walk.reaches;
}

pub kept_walked : (f : Fetched) (walked end : Walk) → IsKept f walked → IsWalk f walked end → IsKept f (record { place = end.place; passed = walked.passed + end.passed })
kept_walked f walked end kept walk = record { ahead = ahead_both f walked end kept walk; fits = kept.fits }

-- ---- more behind it

reaches_more : (a b : LogPlace) (bytes piece : List ℕ) (n : ℕ) → n ≤ length bytes → Reaches a bytes n b → Reaches a (bytes ++ piece) n b
reaches_more a b bytes piece n few reaches more =
    ap (past_all a) (append_assoc bytes piece more)
    ∙ reaches (piece ++ more)
    ∙ ap (past_all b) (sym (append_assoc (drop n bytes) piece more))
    ∙ ap (λ (bs : List ℕ). past_all b (bs ++ more)) (sym (drop-append-le n bytes piece few))

pub kept_more : (f : Fetched) (walked end : Walk) (piece : List ℕ) → IsKept f walked → IsWalk f walked end → (past_all f.place f.bytes).pos + length piece ≤ 4294967295
    → IsKept (record { place = f.place; bytes = f.bytes ++ piece }) (record { place = end.place; passed = walked.passed + end.passed })
kept_more f walked end piece kept walk room =
    let ahead = ahead_both f walked end kept walk in
    let n : ℕ = walked.passed + end.passed in
    let left : List ℕ = drop n f.bytes in
    let led : past_all f.place (f.bytes ++ piece) ≡ past_all (place_seen end.place) (left ++ piece) = ahead.reaches piece in
    let low : (past_all (place_seen end.place) (left ++ piece)).pos ≤ end.place.pos + length (left ++ piece) = ends_low (place_seen end.place) (left ++ piece) in
    let all : length (left ++ piece) ≡ length left + length piece = length-append left piece in
    let old : (past_all f.place f.bytes).pos ≡ end.place.pos + (length (drop walked.passed f.bytes) - end.passed) = ap (λ (p : LogPlace). p.pos) (wanted f walked end kept walk) in
    let short : length left ≡ length (drop walked.passed f.bytes) - end.passed =
    ap length (sym (drop-drop end.passed walked.passed f.bytes)) ∙ length-drop end.passed (drop walked.passed f.bytes) in
    let high : (past_all (place_seen end.place) (left ++ piece)).pos < 2 ^ 32 = omega (arith, low, all, old, short, room) in
    record {
      ahead = record {
        within = omega (arith, ahead.within, length-append f.bytes piece);
        reaches = reaches_more f.place (place_seen end.place) f.bytes piece n ahead.within ahead.reaches;
      };
      fits = subst (λ (p : LogPlace). p.pos < 2 ^ 32) (sym led) high;
    }

-- ---- over bytes of which some are done

-- the same of a relay that is what it is by another list of bytes
abbrev pub of_bytes : LogPlace → List ℕ → Fetched
of_bytes place bytes = record { place = place; bytes = bytes }

pub kept_by : (place : LogPlace) (bytes bytes' : List ℕ) (walked walked' : Walk) → bytes ≡ bytes' → walked ≡ walked' → IsKept (of_bytes place bytes) walked → IsKept (of_bytes place bytes') walked'
kept_by place bytes bytes' walked walked' same same' kept =
    subst (λ (bs : List ℕ). IsKept (of_bytes place bs) walked') same (subst (λ (w : Walk). IsKept (of_bytes place bytes) w) same' kept)

pub walk_by : (f : Fetched) (walked end : Walk) (bytes : List ℕ) → bytes ≡ drop walked.passed f.bytes
    → end.passed ≤ length bytes → Reaches (place_seen walked.place) bytes end.passed (place_seen end.place)
    → past_all (place_seen end.place) (drop end.passed bytes) ≡ moved (place_seen end.place) (length bytes - end.passed) → IsWalk f walked end
walk_by f walked end bytes is within reaches ends =
    record {
      within = subst (λ (bs : List ℕ). end.passed ≤ length bs) is within;
      reaches = subst (λ (bs : List ℕ). Reaches (place_seen walked.place) bs end.passed (place_seen end.place)) is reaches;
      ends = subst (λ (bs : List ℕ). past_all (place_seen end.place) (drop end.passed bs) ≡ moved (place_seen end.place) (length bs - end.passed)) is ends;
    }

-- done bytes stay before those that are put behind
pub dropped_more : (done : ℕ) (items piece : List ℕ) → done ≤ length items → drop done items ++ piece ≡ drop done (items ++ piece)
dropped_more done items piece few = sym (drop-append-le done items piece few)

pub passed_on : (done count result : ℕ) (items items' : List ℕ) → drop result items' ≡ drop (done + count) items → drop count (drop done items) ≡ drop result items'
passed_on done count result items items' same = drop-drop count done items ∙ sym same

-- ---- where the bytes end

-- by the bytes that were walked over
pub want_is : (f now : Fetched) (walked end : Walk) (rest bytes : List ℕ) → f ≡ now → IsKept f walked → rest ≡ now.bytes → bytes ≡ drop walked.passed rest
    → end.passed ≤ length bytes → Reaches (place_seen walked.place) bytes end.passed (place_seen end.place)
    → past_all (place_seen end.place) (drop end.passed bytes) ≡ moved (place_seen end.place) (length bytes - end.passed)
    → past_all now.place now.bytes ≡ moved (place_seen end.place) (length bytes - end.passed)
want_is f now walked end rest bytes same kept is back within reaches ends =
    let bytes-is : bytes ≡ drop walked.passed f.bytes = back ∙ ap (drop walked.passed) (is ∙ ap (λ (g : Fetched). g.bytes) (sym same)) in
    ap (λ (g : Fetched). past_all g.place g.bytes) (sym same)
    ∙ wanted f walked end kept (walk_by f walked end bytes bytes-is within reaches ends)
    ∙ ap (λ (bs : List ℕ). moved (place_seen end.place) (length bs - end.passed)) (sym bytes-is)

pub want_low : (f now : Fetched) (walked end : Walk) (rest bytes : List ℕ) → f ≡ now → IsKept f walked → rest ≡ now.bytes → bytes ≡ drop walked.passed rest
    → end.passed ≤ length bytes → Reaches (place_seen walked.place) bytes end.passed (place_seen end.place)
    → past_all (place_seen end.place) (drop end.passed bytes) ≡ moved (place_seen end.place) (length bytes - end.passed)
    → end.place.pos + (length bytes - end.passed) < 2 ^ 32
want_low f now walked end rest bytes same kept is back within reaches ends =
    subst (λ (p : LogPlace). p.pos < 2 ^ 32) (want_is f now walked end rest bytes same kept is back within reaches ends)
    (subst (λ (g : Fetched). (past_all g.place g.bytes).pos < 2 ^ 32) same kept.fits)
