use Rattle.std.proofs.Common.{◌≡◌, ◌<◌, ℕ, None, [], get_or, refl, subst}
use Rattle.std.proofs.lemmas.List.{get_or-replicate}
use Rattle.format.specs.Bytes.{number_at}
use Rattle.rules.specs.State.{size}
use Rattle.calls.proofs.Checkpointing.{all_lacked}
use Rattle.calls.proofs.state.State.firsts_lacked.Goals as goal

pub returns : goal.returns
returns g c =
    let h = c.read_log.ensures (refl, λ p lt. get_or-replicate 64 p None None lt) in
    let lrcs = c.stored_lrcs.result in
    all_lacked g.K.Change.meaning c.args.self.now c.requires lrcs c.read_log.new.reader.lrcs c.read_log.new.reader.firsts
    (subst (λ w. (p : ℕ) → p < size w.devices → get_or lrcs p 0 ≡ number_at (get_or w.devices.pages.pages p []) 0) c.self.view_is c.stored_lrcs.ensures) h.0 h.1
