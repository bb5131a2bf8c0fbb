use Rattle.fixed_machine.proofs.Runs.{told_none}
use Rattle.fixed_machine.proofs.room_run.run_in.Goals as goal

pub returns-in-None-clause-tells : goal.returns-in-None-clause-tells
returns-in-None-clause-tells c =
    told_none _ _ c.clear.new.self c.in-None.ensures.none c.clear.ensures.no_answers c.clear.ensures.no_word c.clear.ensures.no_registers
