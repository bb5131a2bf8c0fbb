use Rattle.std.proofs.Common.{None, arith}
use Rattle.std.proofs.lemmas.List.{nil_from_length}
use Rattle.fixed_machine.proofs.Runs.{run_of_nil, run_of_pieces}
use Rattle.fixed_machine.proofs.room_run.open_script.Goals as goal

pub returns-then-is_empty-clause-none : goal.returns-then-is_empty-clause-none
returns-then-is_empty-clause-none c = run_of_nil c.args.script.now (nil_from_length c.args.script.now (grind arith))

pub returns-in-None-clause-none : goal.returns-in-None-clause-none
returns-in-None-clause-none c = run_of_pieces c.args.script.now _ _ c.piece_end-end.ensures.cut None c.in-None.ensures

pub returns-in-Some-clause-some : goal.returns-in-Some-clause-some
returns-in-Some-clause-some c =
    record {
      header = c.in-Some.ensures.0;
      is = c.in-Some.ensures.1;
      capped = c.in-Some.ensures.2;
      cut = c.piece_end-end.ensures.cut;
      within = c.piece_end-end.ensures.within;
    }
