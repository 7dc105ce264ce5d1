use Rattle.calls.specs.Outcomes.{wrong_stage}
use Rattle.calls.proofs.Stages.{at_stage, other_stage, this_stage, without_power}
use Rattle.calls.proofs.state.State.ask_stage.Goals as goal

pub returns-then-ne-clause-refused : goal.returns-then-ne-clause-refused
returns-then-ne-clause-refused g c = let s = c.self.inside in
    rw (← c.self.view_is) (wrong_stage (other_stage _ _ c.if-ne.ensures (at_stage s.stage c.args.stage s.jobs s.dirty s.copies.items s.first)))

pub returns-then-is_err-clause-refused : goal.returns-then-is_err-clause-refused
returns-then-is_err-clause-refused g c = let s = c.self.inside in
    rw (← c.self.view_is) (without_power _ c.args.otherwise _ c.check_power-power.result (this_stage _ _ c.if-ne.ensures (at_stage s.stage c.args.stage s.jobs s.dirty s.copies.items s.first)) c.check_power-power.ensures)
