use Rattle.rules.specs.Runs.{made, remade}
use Rattle.promises.proofs.Promised.{blank_begins}
use Rattle.promises.specs.AnyDevices.{made_over}
use Rattle.server.proofs.server.Server.new.Goals as goal

pub returns-in_err-state-clause-blank : goal.returns-in_err-state-clause-blank
returns-in_err-state-clause-blank g c = blank_begins g.K.Change.meaning g.met.K.Change.lawful

pub invariant_of-result : goal.invariant_of-result
invariant_of-result g c = rw c.in_ok-state.ensures (made_over _ (record { pages = g.P.PageStore.sound c.args.pages; log = g.L.LogStore.sound c.args.log }))

pub returns-clause-begins : goal.returns-clause-begins
returns-clause-begins g c = λ n capacity a b some few long short e. rw e (made n capacity a b some few long short)

pub returns-clause-continues : goal.returns-clause-continues
returns-clause-continues g c = λ h before cut a b reached e. rw e (remade cut a b reached)

pub returns-clause-blank : goal.returns-clause-blank
returns-clause-blank g c = blank_begins g.K.Change.meaning g.met.K.Change.lawful
