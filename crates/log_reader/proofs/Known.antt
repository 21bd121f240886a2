-- What is known of the log on an input behind calls that read it group by group.
use Rattle.std.proofs.Common.{◌≡◌, ◌<◌, inl, inr, ℕ, ◌+◌, Bool, true, false, ltb, List, [], ◌++◌, length, Option, Some, None, refl, sym, ap, ◌∙◌, subst, append-nil, arith}
use Rattle.std.proofs.lemmas.Bool.{ltb-true}
use Rattle.log_groups.specs.log_model.Groups.{group, foreign_at, group_at}
use Rattle.log_file_model.specs.Walk.{Ending, ended, damaged, foreign, Piece, Grouped, grouped, grouped_from}
use Rattle.log_groups.specs.log_model.Log.{magic}
use Rattle.log_file_model.specs.Passing.{from_there, ending_with, Passed}
use Rattle.log_file_model.specs.Walk.{nothing_but}
use Rattle.log_file_model.proofs.Walking.{magic_is_passed, others_are_damaged, front_is_passed, fronts_are_damaged, nothing_above, group_is_passed, end_is_seen, stop_is_seen, nothing_behind_names}
use Rattle.log_reader.specs.declared.reader.Found.{Found}
use Rattle.log_reader.specs.declared.reader.Found.TheVariants as found
use Rattle.log_reader.specs.Reading.{Reader, next_pos, Took, IsEnd, IsGroup, IsDamaged, Finds, FindsMagic, FindsFront, begun_at}
use Rattle.log_reader.specs.Behind.{Behind, IsLog, LeadsTo, MagicLeadsTo, FrontLeadsTo, fresh, MagicLeads, FrontLeads, CallsLead, FrontsAreKnown}
use Rattle.log_reader.proofs.Inputs.{took_more, rest_of, input_known, rest_ended}

-- ---- the magic

magic_by : (start after : Option (List ℕ)) (found : Bool) (taken : List ℕ) → Took start after taken → FindsMagic found taken after → MagicLeadsTo start after fresh found
magic_by start after true taken took is = record { front = taken; took = took; passed = subst (λ (bs : List ℕ). Passed grouped bs [] 4 false) (sym is) magic_is_passed }
magic_by start after false taken took (inl other) =
    record { bytes = taken ++ rest_of after; input_is = input_known start after taken took; groups = others_are_damaged.0 taken (rest_of after) other.0 other.1 }
magic_by start after false taken took (inr few) = record {
  bytes = taken ++ rest_of after;
  input_is = input_known start after taken took;
  groups = ap grouped (ap (λ (bs : List ℕ). taken ++ bs) (rest_ended after few.1) ∙ append-nil taken) ∙ others_are_damaged.1 taken few.0;
}

pub magic_leads : MagicLeads
magic_leads start after found reads = magic_by start after found reads.taken reads.took reads.finds

-- ---- bytes before a position

-- a reader there, behind the greatest position of a group or not
open_by : (pos : ℕ) (front : List ℕ) (closed : Bool) → ltb 1200000000 pos ≡ closed → Passed (grouped_from pos) front [] pos false → Passed (grouped_from pos) front [] pos closed
open_by pos front false is passed = passed
open_by pos front true is passed = λ rest. passed rest ∙ nothing_above (record { bytes = rest; pos = pos }) (ltb-true 1200000000 pos is)

module _ (pos : ℕ) (start after : Option (List ℕ)) (taken : List ℕ) (took : Took start after taken) where
  abbrev whole_read : List ℕ
  whole_read = taken ++ rest_of after

  -- the input is damaged at a place, and no group was read
  damaged_log : (at : ℕ) → grouped_from pos whole_read ≡ nothing_but (damaged at) → IsLog (grouped_from pos) start [] (damaged at)
  damaged_log at is = record { bytes = whole_read; input_is = input_known start after taken took; groups = is }

  ended_read : IsEnd after → whole_read ≡ taken
  ended_read end = ap (λ (bs : List ℕ). taken ++ bs) (rest_ended after end) ∙ append-nil taken

  front_by : (found : Option ℕ) → FindsFront pos taken after found → FrontLeadsTo pos start after found
  front_by None is =
      let there : pos ≡ next_pos (begun_at pos) = omega arith in
      record {
        front = taken;
        took = took;
        passed = subst (λ (at : ℕ). Passed (grouped_from pos) taken [] at (ltb 1200000000 pos)) there
            (open_by pos taken (ltb 1200000000 pos) refl (front_is_passed pos taken is.0 is.1 is.2));
      }
  front_by (Some at) (inl (zero_is, inl other)) =
      damaged_log at (fronts_are_damaged.other pos taken (rest_of after) other.0 other.1 ∙ ap (λ (n : ℕ). nothing_but (damaged n)) (sym zero_is))
  front_by (Some at) (inl (zero_is, inr few)) =
      damaged_log at (ap (grouped_from pos) (ended_read few.1) ∙ fronts_are_damaged.short pos taken few.0 ∙ ap (λ (n : ℕ). nothing_but (damaged n)) (sym zero_is))
  front_by (Some at) (inr (inl is)) =
      damaged_log at (ap (λ (bs : List ℕ). grouped_from pos (bs ++ rest_of after)) is.2 ∙ fronts_are_damaged.within pos (rest_of after) is.1
      ∙ ap (λ (n : ℕ). nothing_but (damaged n)) (sym is.0))
  front_by (Some at) (inr (inr is)) =
      damaged_log at (ap (grouped_from pos) (ended_read is.4) ∙ fronts_are_damaged.few pos taken is.3 is.2 (subst (λ (n : ℕ). n < pos) is.0 is.1)
      ∙ ap (λ (n : ℕ). nothing_but (damaged n)) (sym is.0))

pub front_leads : FrontLeads
front_leads pos start after found reads = front_by pos start after reads.taken reads.took found reads.finds

-- ---- calls

module _ (read : List ℕ → Grouped) (start before after : Option (List ℕ)) (ps : List Piece) (old new : Reader) (behind : Behind read start before ps old) (taken : List ℕ) (took : Took before after taken) (begin : new.begin ≡ next_pos old) where
  abbrev whole : List ℕ
  whole = behind.front ++ taken ++ rest_of after

  all_took : Took start after (behind.front ++ taken)
  all_took = took_more start before after behind.front taken behind.took took

  -- the log, once its groups are known
  log_by : (e : Ending) → read (behind.front ++ taken ++ rest_of after) ≡ ending_with ps e → IsLog read start ps e
  log_by e is = record { bytes = behind.front ++ taken ++ rest_of after; input_is = input_known start after (behind.front ++ taken) all_took; groups = is }

  ended_whole : IsEnd after → behind.front ++ taken ++ rest_of after ≡ behind.front ++ taken
  ended_whole end = ap (λ (bs : List ℕ). behind.front ++ taken ++ bs) (rest_ended after end) ∙ append-nil (behind.front ++ taken)

  passed_open : old.closed ≡ false → Passed read behind.front ps (next_pos old) false
  passed_open opened = subst (λ (c : Bool). Passed read behind.front ps (next_pos old) c) opened behind.passed

  group_leads : IsGroup old new taken → LeadsTo read start after ps new found.Group
  group_leads is = (
    is.one,
    subst (λ (bs : List ℕ). group_at (record { bytes = bs; pos = new.begin }) ≡ group is.one) (sym is.bytes) is.reads,
    record {
      front = behind.front ++ taken;
      took = all_took;
      passed = rw (is.bytes, begin, is.closed) (group_is_passed read behind.front taken ps (next_pos old) is.one (passed_open is.opened)
          (ap (λ (at : ℕ). group_at (record { bytes = taken; pos = at })) (sym begin) ∙ is.reads) (is.whole ∙ ap (λ (at : ℕ). at + length taken) begin));
    },
  )

  end_leads : taken ≡ [] → IsEnd after → LeadsTo read start after ps new found.End
  end_leads none end =
      let bytes : behind.front ++ taken ++ rest_of after ≡ behind.front =
      ended_whole end ∙ ap (λ (bs : List ℕ). behind.front ++ bs) none ∙ append-nil behind.front in
      log_by ended (ap read bytes ∙ end_is_seen read behind.front ps (next_pos old) old.closed behind.passed)

  damaged_by : (closed : Bool) (pos : ℕ) → Passed read behind.front ps (next_pos old) closed → IsDamaged closed new.begin pos taken after → IsLog read start ps (damaged pos)
  damaged_by true pos passed is =
      log_by (damaged pos) (nothing_behind_names read behind.front taken (rest_of after) ps (next_pos old) passed is.1 ∙ ap (λ (at : ℕ). ending_with ps (damaged at)) (sym (is.0 ∙ begin)))
  damaged_by false pos passed (inl is) =
      log_by (damaged pos) ((stop_is_seen read behind.front taken (rest_of after) ps (next_pos old) passed).0 pos (ap (λ (at : ℕ). group_at (record { bytes = taken; pos = at })) (sym begin) ∙ is))
  damaged_by false pos passed (inr is) =
      log_by (damaged pos) (ap read (ended_whole is.3)
      ∙ (stop_is_seen read behind.front taken (rest_of after) ps (next_pos old) passed).2 (ap (λ (at : ℕ). group_at (record { bytes = taken; pos = at })) (sym begin) ∙ is.0) is.1
      ∙ ap (λ (at : ℕ). ending_with ps (damaged at)) (sym (is.2 ∙ begin)))

  foreign_leads : (pos kind : ℕ) → old.closed ≡ false → group_at (record { bytes = taken; pos = new.begin }) ≡ foreign_at pos kind → IsLog read start ps (foreign pos kind)
  foreign_leads pos kind opened is =
      log_by (foreign pos kind)
      ((stop_is_seen read behind.front taken (rest_of after) ps (next_pos old) (passed_open opened)).1 pos kind (ap (λ (at : ℕ). group_at (record { bytes = taken; pos = at })) (sym begin) ∙ is))

  leads : (found : Found) → Finds old new taken after found → LeadsTo read start after ps new found
  leads found.Group is = group_leads is
  leads found.End is = end_leads is.0 is.1
  leads (found.Damaged pos) is = damaged_by old.closed pos behind.passed is
  leads (found.Foreign pos kind) is = foreign_leads pos kind is.0 is.1

pub calls_lead : CallsLead
calls_lead read start before after ps old new found behind reads = leads read start before after ps old new behind reads.taken reads.took reads.begin found reads.finds

-- ---- fronts

pub fronts_are_known : FrontsAreKnown
fronts_are_known read start left ps r behind = record {
  bytes = behind.front ++ rest_of left;
  input_is = input_known start left behind.front behind.took;
  more = from_there r.closed (record { bytes = rest_of left; pos = next_pos r });
  groups = behind.passed (rest_of left);
}
