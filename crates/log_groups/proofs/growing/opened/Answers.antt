use Rattle.std.proofs.Common.{◌≡◌, ◌∙◌, ℕ, List, ap, arith, sym}
use Rattle.std.specs.Str.{bytes_eq}
use Rattle.event_codec.specs.Event.{body_of, seen, size_of, query_of}
use Rattle.log_groups.specs.Views.{place_of}
use Rattle.log_groups.proofs.Walking.{within_of}
use Rattle.log_groups.proofs.Looks.{look_opens, look_alone, no_begin, no_query}
use Rattle.log_groups.proofs.growing.opened.Goals as goal

pub go_on-requires : goal.go_on-requires
go_on-requires c =
    let within = within_of (place_of c.args.group) (seen c.args.it.now) c.requires.here in
    let size : size_of c.args.it.now ≡ c.in-Query.query.length = ap size_of c.in-Query.is in
    omega (arith, c.requires.none, within.2, size)

pub returns-then-eq : goal.returns-then-eq
returns-then-eq c =
    let size : size_of c.args.it.now ≡ c.in-Query.query.length = ap size_of c.in-Query.is in
    rw (c.go_on.ensures, ← size)
    (look_opens c.args.group.bytes.now c.args.group.pos c.args.progress c.requires.looked (seen c.args.it.now) (query_of c.in-Query.query) c.requires.none c.requires.here c.requires.few
    (ap body_of c.in-Query.is) (ap (λ (bs : List ℕ). bytes_eq c.in-Query.query.text.now bs) (sym c.as_slice.ensures) ∙ sym c.eq.ensures ∙ c.if-eq.true))

pub returns-else-eq : goal.returns-else-eq
returns-else-eq c =
    look_alone c.args.group.bytes.now c.args.group.pos c.args.progress c.requires.looked (seen c.args.it.now) c.requires.none c.requires.here
    (no_begin (seen c.args.it.now) (query_of c.in-Query.query) (ap body_of c.in-Query.is)
    (ap (λ (bs : List ℕ). bytes_eq c.in-Query.query.text.now bs) (sym c.as_slice.ensures) ∙ sym c.eq.ensures ∙ c.if-eq.false))

pub returns-in-Rotate : goal.returns-in-Rotate
returns-in-Rotate c =
    look_alone c.args.group.bytes.now c.args.group.pos c.args.progress c.requires.looked (seen c.args.it.now) c.requires.none c.requires.here
    (no_query (seen c.args.it.now) _ (ap body_of c.in-Rotate.is) tt)

pub returns-in-IntVar : goal.returns-in-IntVar
returns-in-IntVar c =
    look_alone c.args.group.bytes.now c.args.group.pos c.args.progress c.requires.looked (seen c.args.it.now) c.requires.none c.requires.here
    (no_query (seen c.args.it.now) _ (ap body_of c.in-IntVar.is) tt)

pub returns-in-Rand : goal.returns-in-Rand
returns-in-Rand c =
    look_alone c.args.group.bytes.now c.args.group.pos c.args.progress c.requires.looked (seen c.args.it.now) c.requires.none c.requires.here
    (no_query (seen c.args.it.now) _ (ap body_of c.in-Rand.is) tt)

pub returns-in-UserVar : goal.returns-in-UserVar
returns-in-UserVar c =
    look_alone c.args.group.bytes.now c.args.group.pos c.args.progress c.requires.looked (seen c.args.it.now) c.requires.none c.requires.here
    (no_query (seen c.args.it.now) _ (ap body_of c.in-UserVar.is) tt)

pub returns-in-FormatDescription : goal.returns-in-FormatDescription
returns-in-FormatDescription c =
    look_alone c.args.group.bytes.now c.args.group.pos c.args.progress c.requires.looked (seen c.args.it.now) c.requires.none c.requires.here
    (no_query (seen c.args.it.now) _ (ap body_of c.in-FormatDescription.is) tt)

pub returns-in-Xid : goal.returns-in-Xid
returns-in-Xid c =
    look_alone c.args.group.bytes.now c.args.group.pos c.args.progress c.requires.looked (seen c.args.it.now) c.requires.none c.requires.here
    (no_query (seen c.args.it.now) _ (ap body_of c.in-Xid.is) tt)

pub returns-in-TableMap : goal.returns-in-TableMap
returns-in-TableMap c =
    look_alone c.args.group.bytes.now c.args.group.pos c.args.progress c.requires.looked (seen c.args.it.now) c.requires.none c.requires.here
    (no_query (seen c.args.it.now) _ (ap body_of c.in-TableMap.is) tt)

pub returns-in-Rows : goal.returns-in-Rows
returns-in-Rows c =
    look_alone c.args.group.bytes.now c.args.group.pos c.args.progress c.requires.looked (seen c.args.it.now) c.requires.none c.requires.here
    (no_query (seen c.args.it.now) _ (ap body_of c.in-Rows.is) tt)
