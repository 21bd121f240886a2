use Rattle.std.proofs.Common.{List, [], ◌∷◌, ◌++◌, refl}
use Rattle.event_codec.specs.Event.{Body, query}
use Rattle.row_events.specs.log_model.Items.{query_of, text_of}
use Rattle.row_events.specs.log_model.Spelling.{bodies_of}
use Rattle.item_events.specs.Parts.{numbers, variables}
use Rattle.item_events.proofs.Texting.{begin, part_can, part_goes, last_can, last, text_parts}
use Rattle.item_events.proofs.text.put_text.Goals as goal

pub put_vars-requires : goal.put_vars-requires
put_vars-requires c =
    let all : List Body = bodies_of (text_of c.args.text.now c.args.carried.now) in
    let q : List Body = query (query_of c.args.text.now c.args.carried.now) ∷ [] in
    let first = part_goes all c.args.h c.args.out.now all (numbers c.args.carried.now) (variables c.args.carried.now.vars ++ q) c.args.h c.in_ok-here.here c.args.out.now c.put_numbers.new.out
    (text_parts c.args.text.now c.args.carried.now) (begin all c.args.h c.args.out.now c.requires) c.in_ok-here.ensures.ok in
    part_can all c.args.h c.args.out.now (variables c.args.carried.now.vars ++ q) (variables c.args.carried.now.vars) q c.in_ok-here.here c.put_numbers.new.out refl first

pub put_query-requires : goal.put_query-requires
put_query-requires c =
    let all : List Body = bodies_of (text_of c.args.text.now c.args.carried.now) in
    let q : List Body = query (query_of c.args.text.now c.args.carried.now) ∷ [] in
    let first = part_goes all c.args.h c.args.out.now all (numbers c.args.carried.now) (variables c.args.carried.now.vars ++ q) c.args.h c.in_ok-here.here c.args.out.now c.put_numbers.new.out
    (text_parts c.args.text.now c.args.carried.now) (begin all c.args.h c.args.out.now c.requires) c.in_ok-here.ensures.ok in
    let second = part_goes all c.args.h c.args.out.now (variables c.args.carried.now.vars ++ q) (variables c.args.carried.now.vars) q c.in_ok-here.here c.in_ok-here-2.here c.put_numbers.new.out c.put_vars.new.out refl first c.in_ok-here-2.ensures.ok in
    last_can all c.args.h c.args.out.now q c.in_ok-here-2.here c.put_vars.new.out second

pub returns-clause-ok : goal.returns-clause-ok
returns-clause-ok c =
    let all : List Body = bodies_of (text_of c.args.text.now c.args.carried.now) in
    let q : List Body = query (query_of c.args.text.now c.args.carried.now) ∷ [] in
    let first = part_goes all c.args.h c.args.out.now all (numbers c.args.carried.now) (variables c.args.carried.now.vars ++ q) c.args.h c.in_ok-here.here c.args.out.now c.put_numbers.new.out
    (text_parts c.args.text.now c.args.carried.now) (begin all c.args.h c.args.out.now c.requires) c.in_ok-here.ensures.ok in
    let second = part_goes all c.args.h c.args.out.now (variables c.args.carried.now.vars ++ q) (variables c.args.carried.now.vars) q c.in_ok-here.here c.in_ok-here-2.here c.put_numbers.new.out c.put_vars.new.out refl first c.in_ok-here-2.ensures.ok in
    last all c.args.h c.args.out.now q c.in_ok-here-2.here c.put_vars.new.out c.put_query.new.out c.put_query.result second c.put_query.ensures.ok
