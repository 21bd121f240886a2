-- What was set aside, put back behind what another did over the rows that are there to stay.
use Rattle.std.proofs.Common.{◌≡◌, refl, sym, subst}
use Rattle.table_rules.specs.Stores.{Store, Still}
use Rattle.table_rules.proofs.Leading.{no_less, still_on}
use Rattle.row_store.specs.declared.setting_aside.Aside.{Aside}
use Rattle.row_store.specs.Asides.{with_aside, just_committed, FitsIn, IsAside}
use Rattle.row_store.proofs.Asides.{asides_return_so}

pub beside : (aside : Aside) (before mid now : Store) → IsAside aside before → mid ≡ just_committed before → Still mid now → FitsIn aside now × (with_aside aside now ≡ record before { room = now.room })
beside aside before mid now is alone still =
    let first : Still before mid = subst (λ (s : Store). Still before s) (sym alone) (record { committed = refl; room = no_less before.room }) in
    asides_return_so aside before now is (still_on before mid now first still)
