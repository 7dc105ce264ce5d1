use Rattle.std.proofs.Common.{Some, None, ap, ◌∙◌}
use Rattle.rules.specs.Service.{each_held}
use Rattle.calls.proofs.Committing.{reaches, none_yet, complete_told}
use Rattle.calls.proofs.state.State.held_complete.Goals as goal

pub returns-in-Some : goal.returns-in-Some
returns-in-Some g c =
    let s = c.self.inside in
    let highest = c.read_log.new.reader.of_page in
    c.reached_by.ensures ∙ (ap (λ ps. each_held (reaches ps highest) c.in-Some.entry.now.holds) c.deref.ensures.value
    ∙ complete_told g.K.Change.meaning s.devices s.stage s.jobs s.dirty s.copies.items s.first c.self.view_is c.requires c.args.job highest
    (Some c.in-Some.entry.now) c.in-Some.ensures (c.read_log.ensures (none_yet 256)))

pub returns-in-None : goal.returns-in-None
returns-in-None g c =
    let s = c.self.inside in
    complete_told g.K.Change.meaning s.devices s.stage s.jobs s.dirty s.copies.items s.first c.self.view_is c.requires c.args.job c.read_log.new.reader.of_page
    None c.in-None.ensures (c.read_log.ensures (none_yet 256))
