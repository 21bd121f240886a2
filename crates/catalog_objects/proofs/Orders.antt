-- The orders of keys are total, and tell keys apart.
use Rattle.std.proofs.Common.{◌≡◌, Ordering, Less, Equal, Greater, refl}
use Rattle.std.specs.Ordering.{ordering_then, nat_cmp}
use Rattle.std.specs.Cmp.{IsTotalOrder}
use Rattle.std.specs.Cmp.Lexicographic.{slice_cmp}
use Rattle.std.proofs.lemmas.Cmp.{nat_cmp_total, nat_list_cmp_total, on_total, then_total}
use Rattle.std.proofs.lemmas.Map.Lookups.{exact_bytes, exact_unsigned}
use Rattle.catalog_objects.specs.Keys.{Key, key_order, Event, event_order}

both_tied : (o p : Ordering) → ordering_then o p ≡ Equal → (o ≡ Equal) × (p ≡ Equal)
both_tied Less p e = cc
both_tied Equal p e = (refl, e)
both_tied Greater p e = cc

pub keys_total : IsTotalOrder key_order
keys_total = then_total (on_total (λ (k : Key). k.kind) nat_cmp_total) (on_total (λ (k : Key). k.name) nat_list_cmp_total)

pub keys_exact : (a b : Key) → key_order a b ≡ Equal → a ≡ b
keys_exact a b e =
    let parts = both_tied (nat_cmp a.kind b.kind) (slice_cmp nat_cmp a.name b.name) e in
    let kinds : a.kind ≡ b.kind = exact_unsigned a.kind b.kind parts.0 in
    let names : a.name ≡ b.name = exact_bytes a.name b.name parts.1 in
    λ i. record { kind = kinds i; name = names i }

pub events_total : IsTotalOrder event_order
events_total =
    then_total (then_total (on_total (λ (e : Event). e.table) nat_list_cmp_total) (on_total (λ (e : Event). e.time) nat_cmp_total))
    (on_total (λ (e : Event). e.event) nat_cmp_total)

pub events_exact : (a b : Event) → event_order a b ≡ Equal → a ≡ b
events_exact a b e =
    let parts = both_tied (ordering_then (slice_cmp nat_cmp a.table b.table) (nat_cmp a.time b.time)) (nat_cmp a.event b.event) e in
    let former = both_tied (slice_cmp nat_cmp a.table b.table) (nat_cmp a.time b.time) parts.0 in
    let tables : a.table ≡ b.table = exact_bytes a.table b.table former.0 in
    let times : a.time ≡ b.time = exact_unsigned a.time b.time former.1 in
    let events : a.event ≡ b.event = exact_unsigned a.event b.event parts.1 in
    λ i. record { table = tables i; time = times i; event = events i }
