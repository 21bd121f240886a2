use Rattle.run_stores.proofs.Beginning.{Below, stores_begin}
use Rattle.run_stores.proofs.Ending.{nothing_begins, stores_let_begin, stores_open, runs_end_behind}
use Rattle.run_stores.proofs.laws.behind_goes_on.Goals as goal

pub returns : goal.returns
returns c =
    let below : Below = record {
      have = c.entries_have_length.ensures;
      heads = c.heads_have_length.ensures;
      one = c.logs_go_on.ensures.one.within;
    } in
    record {
      nothing = nothing_begins below c.runs_open.ensures.nothing;
      begins = stores_begin below;
      opens = stores_open (stores_begin below) c.runs_open.ensures.opens;
      lets = stores_let_begin below;
      ends = runs_end_behind below c.runs_open.ensures.ends;
    }
