use Rattle.promises.proofs.Promised.{checkpoints_agree, cut_or_not}
use Rattle.std.proofs.Common.{sym, subst}
use Rattle.rules.specs.Runs.{undo, Reaches}
use Rattle.server.proofs.Promising.{goes_on, promised, undo_accepted, undone_once, again}
use Rattle.server.proofs.server.Server.undo.Goals as goal

pub invariant_of-self : goal.invariant_of-self
invariant_of-self g c = goes_on g.K.Change.meaning undo c.self.invariant c.undo.ensures

pub returns-clause-promised : goal.returns-clause-promised
returns-clause-promised g c = rw (← c.self.view_is) (promised g.K.Change.meaning g.met.K.Change.lawful undo c.self.invariant c.undo.ensures)

pub returns-clause-accepted : goal.returns-clause-accepted
returns-clause-accepted g c = λ h reached. undo_accepted g.K.Change.meaning g.met.K.Change.lawful h c.self.inside.state c.undo.new.self (subst (Reaches g.K.Change.meaning h) (sym c.self.view_is) reached) c.undo.result c.undo.ensures

pub returns-clause-undone : goal.returns-clause-undone
returns-clause-undone g c = λ h reached. undone_once g.K.Change.meaning g.met.K.Change.lawful h c.self.inside.state c.undo.new.self (subst (Reaches g.K.Change.meaning h) (sym c.self.view_is) reached) c.undo.result c.undo.ensures

pub returns-clause-again : goal.returns-clause-again
returns-clause-again g c = λ h w reached. again g.K.Change.meaning g.met.K.Change.lawful h c.self.inside.state c.undo.new.self (subst (Reaches g.K.Change.meaning h) (sym c.self.view_is) reached) w c.undo.result c.undo.ensures

pub returns-clause-checkpoints : goal.returns-clause-checkpoints
returns-clause-checkpoints g c = checkpoints_agree g.K.Change.meaning g.met.K.Change.lawful

pub returns-clause-cut : goal.returns-clause-cut
returns-clause-cut g c = cut_or_not g.K.Change.meaning g.met.K.Change.lawful
