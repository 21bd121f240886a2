-- What leads on, and what can be taken back where it led.
use Rattle.std.proofs.Common.{◌≡◌, ℕ, ◌+◌, ◌-◌, ◌<◌, ◌≤◌, List, [], ◌∷◌, ◌++◌, map, reverse, length, take, drop, true, ◌&&◌, Option, Some, None, ◌⊎◌, inl, inr, refl, sym, ap, ◌∙◌, arith}
use Rattle.std.specs.Prelude.{is_some}
use Rattle.std.specs.Option.{option_and_then}
use Rattle.std.proofs.Math.Seq.{drop-append_seam, drop-append-add, take-append_seam, take-append-add}
use Rattle.std.proofs.lemmas.List.{reverse-append, map-append, append_assoc, append-nil, drop-append-le, take-append-drop}
use Rattle.std.proofs.lemmas.List.Folds.{list_all-append}
use Rattle.std.proofs.lemmas.Bool.{and_parts, and_from, cases_lt}
use Rattle.val_types.specs.declared.change.Change.{Change}
use Rattle.val_types.specs.declared.change.Change.TheVariants.{Insert, Update, Delete}
use Rattle.val_types.specs.Changes.{inverse}
use Rattle.table_rules.specs.Tables.{Table}
use Rattle.table_rules.specs.Changes.{applied}
use Rattle.table_rules.specs.Stored.{all_applied, all_inverse}
use Rattle.table_rules.specs.Stores.{Store, definitions_of, keeps, keeps_put, KeepsAll, AreNoLess, Still, keeps_inverses, can_take_back}
use Rattle.table_rules.specs.Leads.{Leads, LeadsNowhere, LeadsOn, OneChangeLeads, NoChangeLeads, StillTakenBack, NotedTakenBack, LastTakenBack, NoneTakenBack, LeadsBack, LeadsHome}
use Rattle.table_rules.proofs.Taking.{tables_reversible}
use Rattle.table_rules.proofs.Equations.{applied_none, applied_front, applied_one, all_applied_behind}
use Rattle.table_rules.proofs.Storing.{some_same, all_inverse_front, definitions_kept, turn_back}

-- ---- inverses

pub all_inverse_both : (xs ys : List Change) → all_inverse (xs ++ ys) ≡ all_inverse ys ++ all_inverse xs
all_inverse_both xs ys = ap (map inverse) (reverse-append xs ys) ∙ map-append inverse (reverse ys) (reverse xs)

inverse_twice : (x : Change) → inverse (inverse x) ≡ x
inverse_twice (Insert name row) = refl
inverse_twice (Update name before after) = refl
inverse_twice (Delete name row) = refl

all_inverse_twice : (xs : List Change) → all_inverse (all_inverse xs) ≡ xs
all_inverse_twice [] = refl
all_inverse_twice (x ∷ xs) =
    ap all_inverse (all_inverse_front x xs)
    ∙ all_inverse_both (all_inverse xs) (inverse x ∷ [])
    ∙ ap (λ (y : Change). y ∷ all_inverse (all_inverse xs)) (inverse_twice x)
    ∙ ap (λ (ys : List Change). x ∷ ys) (all_inverse_twice xs)

-- taking back changes behind others, and then the others
back_both : (xs ys : List Change) (ts : List Table) → all_applied (all_inverse (xs ++ ys)) ts ≡ option_and_then (all_applied (all_inverse xs)) (all_applied (all_inverse ys) ts)
back_both xs ys ts = ap (λ (cs : List Change). all_applied cs ts) (all_inverse_both xs ys) ∙ all_applied_behind (all_inverse ys) (all_inverse xs) ts

-- ---- keys that are kept

put_more : (old new : Store) (change : Change) → KeepsAll old new → keeps_put old change ≡ true → keeps_put new change ≡ true
put_more old new (Insert name row) more = more name row
put_more old new (Update name before after) more = λ e.
    let parts = and_parts (keeps old name before) (keeps old name after) e in
    and_from (keeps new name before) (keeps new name after) (more name before parts.0) (more name after parts.1)
put_more old new (Delete name row) more = more name row

kept_more : (old new : Store) (xs : List Change) → KeepsAll old new → keeps_inverses old xs ≡ true → keeps_inverses new xs ≡ true
kept_more old new [] more e = refl
kept_more old new (x ∷ xs) more e =
    let parts = and_parts (keeps_put old (inverse x)) (keeps_inverses old xs) e in
    and_from (keeps_put new (inverse x)) (keeps_inverses new xs) (put_more old new (inverse x) more parts.0) (kept_more old new xs more parts.1)

kept_both : (store : Store) (xs ys : List Change) → keeps_inverses store (xs ++ ys) ≡ (keeps_inverses store xs && keeps_inverses store ys)
kept_both store xs ys = list_all-append (λ (c : Change). keeps_put store (inverse c)) xs ys

-- ---- rows that are there to stay

pub no_less : (counts : List ℕ) → AreNoLess counts counts
no_less [] = tt
no_less (count ∷ counts) = (omega arith, no_less counts)

no_less_on : (old mid new : List ℕ) → AreNoLess old mid → AreNoLess mid new → AreNoLess old new
no_less_on [] [] [] p q = tt
no_less_on [] [] (c ∷ new) p q = absurd q
no_less_on [] (b ∷ mid) new p q = absurd p
no_less_on (a ∷ old) [] new p q = absurd p
no_less_on (a ∷ old) (b ∷ mid) [] p q = absurd q
no_less_on (a ∷ old) (b ∷ mid) (c ∷ new) p q = let first : a ≤ b = p.0 in let second : b ≤ c = q.0 in (omega arith, no_less_on old mid new p.1 q.1)

-- nothing changed
pub still_same : (store : Store) → Still store store
still_same store = record { committed = refl; room = no_less store.room }

-- one call and then another
pub still_on : (old mid new : Store) → Still old mid → Still mid new → Still old new
still_on old mid new p q = record { committed = q.committed ∙ p.committed; room = no_less_on old.room mid.room new.room p.room q.room }

-- ---- leading on

pub leads_nowhere : LeadsNowhere
leads_nowhere store noted = record {
  more = [];
  added = sym (append-nil noted);
  made = applied_none store.tables;
  back = applied_none store.tables;
  kept = refl;
  keys = λ name row h. h;
  same = refl;
  still = still_same store;
}

pub leads_on : LeadsOn
leads_on old mid new noted later now p q = record {
  more = p.more ++ q.more;
  added = q.added ∙ ap (λ (cs : List Change). cs ++ q.more) p.added ∙ append_assoc noted p.more q.more;
  made = all_applied_behind p.more q.more old.tables ∙ ap (option_and_then (all_applied q.more)) p.made ∙ q.made;
  back = back_both p.more q.more new.tables ∙ ap (option_and_then (all_applied (all_inverse p.more))) q.back ∙ p.back;
  kept = kept_both new p.more q.more ∙ and_from (keeps_inverses new p.more) (keeps_inverses new q.more) (kept_more mid new p.more q.keys p.kept) q.kept;
  keys = λ name row h. q.keys name row (p.keys name row h);
  same = q.same ∙ p.same;
  still = still_on old mid new p.still q.still;
}

-- the same from the last step, of which a search knows where it ends
pub leads_from : (old mid new : Store) (noted later now : List Change) → Leads mid later new now → Leads old noted mid later → Leads old noted new now
leads_from old mid new noted later now q p = leads_on old mid new noted later now p q

pub leads_by_three : (a b c d : Store) (k l m n : List Change) → Leads c m d n → Leads b l c m → Leads a k b l → Leads a k d n
leads_by_three a b c d k l m n r q p = leads_on a b d k l n p (leads_on b c d l m n q r)

pub leads_by_four : (a b c d e : Store) (k l m n o : List Change) → Leads d n e o → Leads c m d n → Leads b l c m → Leads a k b l → Leads a k e o
leads_by_four a b c d e k l m n o s r q p = leads_on a b e k l o p (leads_by_three b c d e l m n o s r q)

pub one_change_leads : OneChangeLeads
one_change_leads old new noted change all made kept keys still = record {
  more = change ∷ [];
  added = refl;
  made = applied_one change old.tables ∙ made;
  back = applied_one (inverse change) new.tables ∙ (tables_reversible change old.tables new.tables all made).0;
  kept = and_from (keeps_put new (inverse change)) true kept refl;
  keys = keys;
  same = definitions_kept change old.tables new.tables made;
  still = still;
}

pub no_change_leads : NoChangeLeads
no_change_leads old new noted tables keys still = record {
  more = [];
  added = sym (append-nil noted);
  made = applied_none old.tables ∙ ap (λ (ts : List Table). Some ts) (sym tables);
  back = applied_none new.tables ∙ ap (λ (ts : List Table). Some ts) tables;
  kept = refl;
  keys = keys;
  same = ap definitions_of tables;
  still = still;
}

-- ---- what can be taken back

then_some : {A B : Type 0} (f : A → Option B) (o : Option A) (y : B) → option_and_then f o ≡ Some y → (z : A) × (o ≡ Some z) × (f z ≡ Some y)
then_some f (Some z) y e = (z, refl, e)
then_some f None y e = cc

first_some : {A B : Type 0} (f : A → Option B) (o : Option A) → is_some (option_and_then f o) ≡ true → is_some o ≡ true
first_some f None e = cc
first_some f (Some a) e = refl

can_from : (store : Store) (xs : List Change) → is_some (all_applied (all_inverse xs) store.tables) ≡ true → keeps_inverses store xs ≡ true → can_take_back store xs ≡ true
unfolding can_take_back
can_from store xs steps kept = and_from (is_some (all_applied (all_inverse xs) store.tables)) (keeps_inverses store xs) steps kept

can_parts : (store : Store) (xs : List Change) → can_take_back store xs ≡ true → (is_some (all_applied (all_inverse xs) store.tables) ≡ true) × (keeps_inverses store xs ≡ true)
unfolding can_take_back
can_parts store xs can = and_parts (is_some (all_applied (all_inverse xs) store.tables)) (keeps_inverses store xs) can

pub none_taken_back : NoneTakenBack
none_taken_back store = can_from store [] (ap is_some (applied_none store.tables)) refl

last_of : (store : Store) (xs ys : List Change) → can_take_back store (xs ++ ys) ≡ true → can_take_back store ys ≡ true
last_of store xs ys can =
    let parts = can_parts store (xs ++ ys) can in
    can_from store ys
    (first_some (all_applied (all_inverse xs)) (all_applied (all_inverse ys) store.tables) (ap (λ (o : Option (List Table)). is_some o) (sym (back_both xs ys store.tables)) ∙ parts.0))
    (and_parts (keeps_inverses store xs) (keeps_inverses store ys) (sym (kept_both store xs ys) ∙ parts.1)).1

pub last_taken_back : LastTakenBack
last_taken_back store changes count can =
    last_of store (take count changes) (drop count changes) (ap (can_take_back store) (take-append-drop count changes) ∙ can)

-- the changes behind those that could be taken back
more_taken_back : (old new : Store) (noted now : List Change) → (p : Leads old noted new now) → (xs : List Change) → can_take_back old xs ≡ true → can_take_back new (xs ++ p.more) ≡ true
more_taken_back old new noted now p xs can =
    let parts = can_parts old xs can in
    can_from new (xs ++ p.more)
    (ap (λ (o : Option (List Table)). is_some o) (back_both xs p.more new.tables ∙ ap (option_and_then (all_applied (all_inverse xs))) p.back) ∙ parts.0)
    (kept_both new xs p.more ∙ and_from (keeps_inverses new xs) (keeps_inverses new p.more) (kept_more old new xs p.keys parts.1) p.kept)

past_mark : (noted more now : List Change) (mark : ℕ) → now ≡ noted ++ more → length noted ≤ mark → drop mark now ≡ drop (mark - length noted) more
past_mark noted more now mark added past =
    let sum : mark ≡ length noted + (mark - length noted) = omega arith in
    ap (drop mark) added
    ∙ ap (λ (k : ℕ). drop k (noted ++ more)) sum
    ∙ drop-append-add noted more (mark - length noted)

pub noted_taken_back : NotedTakenBack
noted_taken_back old new noted now p mark past =
    ap (can_take_back new) (past_mark noted p.more now mark p.added past)
    ∙ last_taken_back new p.more (mark - length noted) (more_taken_back old new noted now p [] (none_taken_back old))

still_by : (old new : Store) (noted now : List Change) → (p : Leads old noted new now) → (mark : ℕ) → (length noted < mark) ⊎ (mark ≤ length noted)
    → can_take_back old (drop mark noted) ≡ true → can_take_back new (drop mark now) ≡ true
still_by old new noted now p mark (inl past) can = noted_taken_back old new noted now p mark (omega arith)
still_by old new noted now p mark (inr within) can =
    ap (λ (cs : List Change). can_take_back new (drop mark cs)) p.added
    ∙ ap (can_take_back new) (drop-append-le mark noted p.more within)
    ∙ more_taken_back old new noted now p (drop mark noted) can

pub still_taken_back : StillTakenBack
still_taken_back old new noted now p mark can = still_by old new noted now p mark (cases_lt (length noted) mark) can

-- ---- taking back

-- the last of some changes that can be taken back is a step, and the key of the row that taking it back puts is kept
pub last_step : (store : Store) (xs : List Change) (last : Change) → can_take_back store (xs ++ last ∷ []) ≡ true
    → (is_some (applied (inverse last) store.tables) ≡ true) × (keeps_put store (inverse last) ≡ true)
last_step store xs last can =
    let parts = can_parts store (last ∷ []) (last_of store xs (last ∷ []) can) in
    (ap is_some (sym (applied_one (inverse last) store.tables)) ∙ parts.0, (and_parts (keeps_put store (inverse last)) true parts.1).0)

-- taking the last back, and then the others
pub back_last : (xs : List Change) (last : Change) (ts : List Table) → all_applied (all_inverse (xs ++ last ∷ [])) ts ≡ option_and_then (all_applied (all_inverse xs)) (applied (inverse last) ts)
back_last xs last ts = ap (λ (cs : List Change). all_applied cs ts) (all_inverse_both xs (last ∷ [])) ∙ applied_front (inverse last) (all_inverse xs) ts

-- then the others can be taken back
pub rest_taken_back : (old new : Store) (xs : List Change) (last : Change) → applied (inverse last) old.tables ≡ Some new.tables → KeepsAll old new → can_take_back old (xs ++ last ∷ []) ≡ true
    → can_take_back new xs ≡ true
rest_taken_back old new xs last made keys can =
    let parts = can_parts old (xs ++ last ∷ []) can in
    can_from new xs
    (ap (λ (o : Option (List Table)). is_some o) (sym (back_last xs last old.tables ∙ ap (option_and_then (all_applied (all_inverse xs))) made)) ∙ parts.0)
    (kept_more old new xs keys (and_parts (keeps_inverses old xs) (keeps_inverses old (last ∷ [])) (sym (kept_both old xs (last ∷ [])) ∙ parts.1)).0)

all_definitions : (xs : List Change) (ts after : List Table) → all_applied xs ts ≡ Some after → definitions_of after ≡ definitions_of ts
all_definitions [] ts after e = ap definitions_of (sym (some_same ts after (sym (applied_none ts) ∙ e)))
all_definitions (x ∷ xs) ts after e =
    let mid = then_some (all_applied xs) (applied x ts) after (sym (applied_front x xs ts) ∙ e) in
    all_definitions xs mid.0 after mid.2 ∙ definitions_kept x ts mid.0 mid.1

pub leads_back : LeadsBack
leads_back start old new noted later now mark all p past gone left keys still =
    let k : ℕ = mark - length noted in
    let sum : mark ≡ length noted + k = omega arith in
    let front : List Change = take k p.more in
    let behind : List Change = drop k p.more in
    let whole : front ++ behind ≡ p.more = take-append-drop k p.more in
    let taken : all_applied (all_inverse behind) old.tables ≡ Some new.tables =
    ap (λ (cs : List Change). all_applied (all_inverse cs) old.tables) (sym (past_mark noted p.more later mark p.added past)) ∙ gone in
    let back : all_applied (all_inverse front) new.tables ≡ Some start.tables =
    ap (option_and_then (all_applied (all_inverse front))) (sym taken)
    ∙ sym (back_both front behind old.tables)
    ∙ ap (λ (cs : List Change). all_applied (all_inverse cs) old.tables) whole
    ∙ p.back in
    let made : all_applied front start.tables ≡ Some new.tables =
    ap (λ (cs : List Change). all_applied cs start.tables) (sym (all_inverse_twice front)) ∙ (turn_back (all_inverse front) new.tables start.tables all back).0 in
    record {
      more = front;
      added = left ∙ ap (take mark) p.added ∙ ap (λ (n : ℕ). take n (noted ++ p.more)) sum ∙ take-append-add noted p.more k;
      made = made;
      back = back;
      kept = kept_more old new front keys (and_parts (keeps_inverses old front) (keeps_inverses old behind) (sym (kept_both old front behind) ∙ ap (keeps_inverses old) whole ∙ p.kept)).0;
      keys = λ name row h. keys name row (p.keys name row h);
      same = all_definitions front start.tables new.tables made;
      still = still_on start old new p.still still;
    }

pub leads_home : LeadsHome
leads_home start old noted later p = (
  ap (λ (cs : List Change). all_applied (all_inverse (drop (length noted) cs)) old.tables) p.added
      ∙ ap (λ (cs : List Change). all_applied (all_inverse cs) old.tables) (drop-append_seam noted p.more)
      ∙ p.back,
  ap (take (length noted)) p.added ∙ take-append_seam noted p.more,
)

-- what callers need where calls lead on
pub ruleset leading = (leads_nowhere, leads_from, leads_by_three, leads_by_four, still_taken_back, noted_taken_back, last_taken_back, none_taken_back)
