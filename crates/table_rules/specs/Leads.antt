-- What a call did to what is stored and to the list of changes noted for taking back, whatever it answers.
use Rattle.std.specs.Prelude.{◌≡◌, ℕ, ◌≤◌, true, List, [], ◌∷◌, ◌++◌, drop, take, length, Some}
use Rattle.val_types.specs.declared.change.Change.{Change}
use Rattle.val_types.specs.Changes.{inverse}
use Rattle.table_rules.specs.Changes.{applied, AreKept}
use Rattle.table_rules.specs.Stored.{all_applied, all_inverse}
use Rattle.table_rules.specs.Stores.{Store, definitions_of, keeps_put, KeepsAll, Still, keeps_inverses, can_take_back}

-- Changes were noted behind those that were, and they lead from the old tables to the new; taking them back leads to the old
-- ones and needs no memory, keys that were kept are kept still, the tables are of the same definitions, and what is there to stay
-- is as it was.
pub record Leads (old : Store) (noted : List Change) (new : Store) (now : List Change) : Type 0 where
  pub more : List Change
  pub added : now ≡ noted ++ more
  pub made : all_applied more old.tables ≡ Some new.tables
  pub back : all_applied (all_inverse more) new.tables ≡ Some old.tables
  pub kept : keeps_inverses new more ≡ true
  pub keys : KeepsAll old new
  pub same : definitions_of new.tables ≡ definitions_of old.tables
  pub still : Still old new

-- ---- laws

-- doing nothing leads nowhere
abbrev pub LeadsNowhere : Type 0
LeadsNowhere = (store : Store) (noted : List Change) → Leads store noted store noted

-- what leads on from where another leads, leads on from its beginning
abbrev pub LeadsOn : Type 0
LeadsOn =
    (old mid new : Store) (noted later now : List Change)
    → Leads old noted mid later → Leads mid later new now → Leads old noted new now

-- one change that was made and noted leads on, where the keys of the rows that taking it back puts and takes out are kept
abbrev pub OneChangeLeads : Type 0
OneChangeLeads =
    (old new : Store) (noted : List Change) (change : Change)
    → AreKept old.tables → applied change old.tables ≡ Some new.tables → keeps_put new (inverse change) ≡ true → KeepsAll old new
    → Still old new
    → Leads old noted new (noted ++ change ∷ [])

-- where no change was made and none noted, more keys may be kept
abbrev pub NoChangeLeads : Type 0
NoChangeLeads =
    (old new : Store) (noted : List Change) → new.tables ≡ old.tables → KeepsAll old new → Still old new → Leads old noted new noted

-- what could be taken back before can be taken back after it, whatever the mark
abbrev pub StillTakenBack : Type 0
StillTakenBack =
    (old new : Store) (noted now : List Change) → Leads old noted new now
    → (mark : ℕ) → can_take_back old (drop mark noted) ≡ true → can_take_back new (drop mark now) ≡ true

-- what was noted since can be taken back
abbrev pub NotedTakenBack : Type 0
NotedTakenBack =
    (old new : Store) (noted now : List Change) → Leads old noted new now
    → (mark : ℕ) → length noted ≤ mark → can_take_back new (drop mark now) ≡ true

-- the last of some changes can be taken back where all can
abbrev pub LastTakenBack : Type 0
LastTakenBack =
    (store : Store) (changes : List Change) (count : ℕ) → can_take_back store changes ≡ true → can_take_back store (drop count changes) ≡ true

-- no change can always be taken back
abbrev pub NoneTakenBack : Type 0
NoneTakenBack = (store : Store) → can_take_back store [] ≡ true

-- taking back to a mark still leads on from what led there
abbrev pub LeadsBack : Type 0
LeadsBack =
    (start old new : Store) (noted later now : List Change) (mark : ℕ)
    → AreKept new.tables → Leads start noted old later → length noted ≤ mark
    → all_applied (all_inverse (drop mark later)) old.tables ≡ Some new.tables → now ≡ take mark later → KeepsAll old new → Still old new
    → Leads start noted new now

-- taking back to where it began leads to the tables and the list that were there
abbrev pub LeadsHome : Type 0
LeadsHome =
    (start old : Store) (noted later : List Change) → Leads start noted old later
    → (all_applied (all_inverse (drop (length noted) later)) old.tables ≡ Some start.tables) × (take (length noted) later ≡ noted)
