-- What a checkpoint's pieces leave of an image that stands for what is held.
use Rattle.std.proofs.Common.{◌≡◌, ◌≢◌, inl, inr, ℕ, ◌+◌, ◌<◌, ◌≤◌, ◌^◌, Bool, true, false, cond, eqb, List, [], ◌∷◌, ◌++◌, length, Some, Ok, refl, sym, ap, subst, ◌∙◌, arith}
use Rattle.std.proofs.lemmas.Bool.{cond-true, cond-false, eq-eqb, ne_eqb}
use Rattle.disk_model.specs.Story.{Image, overwritten}
use Rattle.gate_journal.specs.Records.{and_behind, none_from, records, records_from}
use Rattle.gate_journal.specs.Journal.{IsAtGate}
use Rattle.gate_journal.proofs.Reading.{end_is}
use Rattle.store_model.specs.declared.record.Kind.{Kind}
use Rattle.store_model.specs.Held.{LogEnd, Held}
use Rattle.store_model.specs.Snapshots.{is_open, snapshot_body, snapshot_in, IsSnapshot}
use Rattle.store_model.specs.Stores.{first_log, journal_of, AreLong, HasLogs, Stands}
use Rattle.store_model.proofs.Rebuilding.{snapshot_again}
use Rattle.store_model.proofs.Standing.{long, there}
use Rattle.checkpoint_model.specs.Pieces.{Piece, all_put, is_to_close, put, snapshot_file, snapshot_framed}
use Rattle.checkpoint_model.specs.Moments.{AtEach, HasBody, IsOlder, IsShut, IsTornBy, StandsEither}
use Rattle.checkpoint_model.specs.Laws.{CheckpointsKeep, CheckpointsLead, NewestCounts, OlderMayChange, OtherIsOlder}
use Rattle.checkpoint_model.proofs.Gates.{body_put, body_read, body_torn, gate_put, older_shut, older_torn, opened_is_open, shut_already, shut_put, shut_torn}
use Rattle.checkpoint_model.proofs.Generations.{begun_next, begun_still, older_other}

-- ---- a journal whose first gate is closed

pub no_records : (file : List ℕ) → IsShut file → records file ≡ Ok (none_from 0)
unfolding records
no_records [] shut = refl
no_records (a ∷ xs) shut = ap (λ r. and_behind r (a ∷ xs) 0 (records_from (length xs) (a ∷ xs))) (end_is (a ∷ xs) 0 shut.gate)

pub at_first_gate : (file : List ℕ) → IsShut file → IsAtGate file 0
at_first_gate file shut = record { opened = none_from 0; is = no_records file shut; place = refl; within = shut.some; closed = shut.gate }

-- ---- the frames

pub other_is_older : OtherIsOlder
other_is_older kind generation image held stands = older_other kind generation image stands.begun stands.from

pub older_may_change : OlderMayChange
older_may_change kind generation image image' held stands same older journal logs = record {
  begun = stands.begun;
  from = begun_still kind generation image stands.begun stands.from image' same older;
  opened = stands.opened;
  read = ap records journal ∙ stands.read;
  made = stands.made;
  logs = logs;
}

pub newest_stands : (kind : Kind) (generation : ℕ) (image image' : Image) (held : Held) → Stands kind generation image held → image' (snapshot_file generation) ≡ image (snapshot_file generation)
    → is_open (image' (snapshot_file (generation + 1))) ≡ true → snapshot_in kind (snapshot_file (generation + 1)) (image' (snapshot_file (generation + 1))) ≡ Some (generation + 1, held)
    → records (image' (journal_of (generation + 1))) ≡ Ok (none_from 0) → HasLogs first_log held.ends image' → Stands kind (generation + 1) image' held
newest_stands kind generation image image' held stands same shows is read logs = record {
  begun = held;
  from = begun_next kind generation image stands.begun stands.from image' same held shows is;
  opened = none_from 0;
  read = read;
  made = refl;
  logs = logs;
}

pub newest_counts : NewestCounts
newest_counts kind generation image image' held body file stands same has torn fits is journal read logs = by (is_open (image' f)) refl
  where
    f : ℕ
    f = snapshot_file (generation + 1)

    by : (z : Bool) → is_open (image' f) ≡ z → StandsEither kind generation held image'
    by false shut = inl (older_may_change kind generation image image' held stands same (inl shut) journal logs)
    by true shows = inr (newest_stands kind generation image image' held stands same shows
        (body_read kind (generation + 1) held f body (image' f) (body_torn body file (image' f) has torn) fits refl is) read logs)

-- ---- a piece put

put_own : (p : Piece) (image : Image) → put p image p.file ≡ overwritten p.at p.bytes (image p.file)
put_own p image = cond-true (eqb p.file p.file) (overwritten p.at p.bytes (image p.file)) (image p.file) (eq-eqb p.file p.file refl)

put_other : (p : Piece) (image : Image) (f : ℕ) → f ≢ p.file → put p image f ≡ image f
put_other p image f ne = cond-false (eqb f p.file) (overwritten p.at p.bytes (image p.file)) (image f) (ne_eqb f p.file ne)

long_same : (file : ℕ) (ends : List LogEnd) (image image' : Image) → ((f : ℕ) → file ≤ f → image' f ≡ image f) → AreLong file ends image → AreLong file ends image'
long_same file [] image image' same are = tt
long_same file (e ∷ ends) image image' same are = (
  omega (arith, are.0, ap length (same file (omega arith))),
  long_same (file + 1) ends image image' (λ f le. same f (omega (arith, le))) are.1,
)

pub logs_same : (ends : List LogEnd) (image image' : Image) → ((f : ℕ) → first_log ≤ f → image' f ≡ image f) → HasLogs first_log ends image → HasLogs first_log ends image'
logs_same ends image image' same has = there first_log ends image' (long_same first_log ends image image' same (long first_log ends image has))

-- ---- a whole checkpoint

module _ (kind : Kind) (g : ℕ) (start : Image) (held : Held) (stands : Stands kind g start held) (is : IsSnapshot kind (g + 1) held)
    (fits : length (snapshot_body kind (g + 1) held) < 2 ^ 64) where
  abbrev pub body : List ℕ
  body = snapshot_body kind (g + 1) held

  abbrev pub f : ℕ
  f = snapshot_file (g + 1)

  abbrev pub j : ℕ
  j = journal_of (g + 1)

  -- what counts is as at the start
  record Same (image : Image) : Type 0 where
    pub active : image (snapshot_file g) ≡ start (snapshot_file g)
    pub journal : image (journal_of g) ≡ start (journal_of g)

  -- a piece is in neither of the files that count
  record IsApart (p : Piece) : Type 0 where
    pub active : snapshot_file g ≢ p.file
    pub journal : journal_of g ≢ p.file
    pub low : p.file < first_log

  in_snapshot : (p : Piece) → p.file ≡ f → IsApart p
  in_snapshot p at = record {
    active = λ same. absurd (omega (arith, at, same));
    journal = λ same. absurd (omega (arith, at, same));
    low = omega (arith, at);
  }

  in_journal : (p : Piece) → p.file ≡ j → IsApart p
  in_journal p at = record {
    active = λ same. absurd (omega (arith, at, same));
    journal = λ same. absurd (omega (arith, at, same));
    low = omega (arith, at);
  }

  same_torn : (p : Piece) (image image' : Image) → IsApart p → IsTornBy p image image' → Same image → Same image'
  same_torn p image image' apart torn same = record {
    active = torn.others (snapshot_file g) (omega arith) apart.active ∙ same.active;
    journal = torn.others (journal_of g) (omega arith) apart.journal ∙ same.journal;
  }

  same_put : (p : Piece) (image : Image) → IsApart p → Same image → Same (put p image)
  same_put p image apart same = record {
    active = put_other p image (snapshot_file g) apart.active ∙ same.active;
    journal = put_other p image (journal_of g) apart.journal ∙ same.journal;
  }

  abbrev pub P : Image → Type 0
  P image = HasLogs first_log held.ends image → StandsEither kind g held image

  -- while the snapshot's file does not count
  still : (image : Image) → Same image → IsOlder kind g f (image f) → P image
  still image same older logs = inl (older_may_change kind g start image held stands same.active older same.journal logs)

  abbrev pub journal_gate : Piece
  journal_gate = record { file = j; at = 0; bytes = 0 ∷ [] }

  abbrev pub written : Piece
  written = record { file = f; at = 1; bytes = snapshot_framed body }

  abbrev pub opened_gate : Piece
  opened_gate = record { file = f; at = 0; bytes = 1 ∷ [] }

  f_not_j : f ≢ j
  f_not_j same = absurd (omega (arith, same))

  -- the last piece
  module _ (image : Image) (same : Same image) (has : HasBody body (image f)) (shut : IsShut (image j)) where
    opening_torn : (image' : Image) → IsTornBy opened_gate image image' → P image'
    opening_torn image' torn logs =
        let same' = same_torn opened_gate image image' (in_snapshot opened_gate refl) torn same in
        let rest : image' j ≡ image j = torn.others j (omega arith) (λ e. f_not_j (sym e)) in
        newest_counts kind g start image' held body (image f) stands same'.active has torn.torn fits (snapshot_again kind (g + 1) held is) same'.journal
        (no_records (image' j) (subst IsShut (sym rest) shut)) logs

    opened_stands : HasLogs first_log held.ends (put opened_gate image) → Stands kind (g + 1) (put opened_gate image) held
    opened_stands logs =
        let image' = put opened_gate image in
        let same' = same_put opened_gate image (in_snapshot opened_gate refl) same in
        let file : image' f ≡ 1 ∷ (snapshot_framed body ++ has.rest) = put_own opened_gate image ∙ ap (overwritten 0 (1 ∷ [])) has.is ∙ gate_put 1 has.gate (snapshot_framed body ++ has.rest) in
        let now : HasBody body (image' f) = record { gate = 1; rest = has.rest; is = file } in
        newest_stands kind g start image' held stands same'.active (ap is_open file ∙ opened_is_open body has.rest)
        (body_read kind (g + 1) held f body (image' f) now fits refl (snapshot_again kind (g + 1) held is))
        (no_records (image' j) (subst IsShut (sym (put_other opened_gate image j (λ e. f_not_j (sym e)))) shut)) logs

  abbrev pub rest : List Piece
  rest = journal_gate ∷ written ∷ opened_gate ∷ []

  -- behind the closed gate
  module _ (image : Image) (same : Same image) (shut : IsShut (image f)) where
    abbrev first : Image
    first = put journal_gate image

    first_same : Same first
    first_same = same_put journal_gate image (in_journal journal_gate refl) same

    first_shut : IsShut (first f)
    first_shut = subst IsShut (sym (put_other journal_gate image f f_not_j)) shut

    first_journal : IsShut (first j)
    first_journal = subst IsShut (sym (put_own journal_gate image)) (shut_put (image j))

    abbrev second : Image
    second = put written first

    second_same : Same second
    second_same = same_put written first (in_snapshot written refl) first_same

    second_has : HasBody body (second f)
    second_has = subst (HasBody body) (sym (put_own written first)) (body_put body (first f) first_shut)

    second_journal : IsShut (second j)
    second_journal = subst IsShut (sym (put_other written first j (λ e. f_not_j (sym e)))) first_journal

    journal_torn : (image' : Image) → IsTornBy journal_gate image image' → P image'
    journal_torn image' torn =
        still image' (same_torn journal_gate image image' (in_journal journal_gate refl) torn same)
        (older_shut kind g f (image' f) (subst IsShut (sym (torn.others f (omega arith) f_not_j)) shut))

    written_torn : (image' : Image) → IsTornBy written first image' → P image'
    written_torn image' torn =
        still image' (same_torn written first image' (in_snapshot written refl) torn first_same)
        (older_shut kind g f (image' f) (shut_torn (length (snapshot_framed body)) (first f) (image' f) first_shut torn.torn))

    rest_keeps : AtEach P rest image
    rest_keeps = (
      journal_torn,
      (written_torn, (opening_torn second second_same second_has second_journal, λ logs. inr (opened_stands second second_same second_has second_journal logs))),
    )

    rest_leads : ((x : ℕ) → first_log ≤ x → image x ≡ start x) → Stands kind (g + 1) (all_put rest image) held × IsAtGate (all_put rest image j) 0
    rest_leads logs =
        let third = put opened_gate second in
        let high : (x : ℕ) → first_log ≤ x → third x ≡ start x = λ x le.
        put_other opened_gate second x (λ e. absurd (omega (arith, le, e)))
        ∙ put_other written first x (λ e. absurd (omega (arith, le, e)))
        ∙ put_other journal_gate image x (λ e. absurd (omega (arith, le, e)))
        ∙ logs x le in (
          opened_stands second second_same second_has second_journal (logs_same held.ends start third high stands.logs),
          at_first_gate (third j) (subst IsShut (sym (put_other opened_gate second j (λ e. f_not_j (sym e)))) second_journal),
        )

  start_same : Same start
  start_same = record { active = refl; journal = refl }

  abbrev pub gate : Piece
  gate = record { file = f; at = 0; bytes = 0 ∷ [] }

  gate_torn : is_to_close (start f) ≡ true → (image' : Image) → IsTornBy gate start image' → P image'
  gate_torn close image' torn =
      still image' (same_torn gate start image' (in_snapshot gate refl) torn start_same)
      (older_torn kind g f (start f) (image' f) (other_is_older kind g start held stands) close torn.torn)

  gate_same : Same (put gate start)
  gate_same = same_put gate start (in_snapshot gate refl) start_same

  gate_shut : IsShut (put gate start f)
  gate_shut = subst IsShut (sym (put_own gate start)) (shut_put (start f))

  pub keeps : (z : Bool) → is_to_close (start f) ≡ z → AtEach P (cond z (gate ∷ []) [] ++ rest) start
  keeps true close = (gate_torn close, rest_keeps (put gate start) gate_same gate_shut)
  keeps false close = rest_keeps start start_same (shut_already (start f) close)

  pub leads : (z : Bool) → is_to_close (start f) ≡ z
      → Stands kind (g + 1) (all_put (cond z (gate ∷ []) [] ++ rest) start) held × IsAtGate (all_put (cond z (gate ∷ []) [] ++ rest) start j) 0
  leads true close = rest_leads (put gate start) gate_same gate_shut (λ x le. put_other gate start x (λ e. absurd (omega (arith, le, e))))
  leads false close = rest_leads start start_same (shut_already (start f) close) (λ x le. refl)

pub checkpoints_keep : CheckpointsKeep
checkpoints_keep kind g image held stands is fits = keeps kind g image held stands is fits (is_to_close (image (snapshot_file (g + 1)))) refl

pub checkpoints_lead : CheckpointsLead
checkpoints_lead kind g image held stands is fits = leads kind g image held stands is fits (is_to_close (image (snapshot_file (g + 1)))) refl
