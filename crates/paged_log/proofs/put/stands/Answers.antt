use Rattle.device.proofs.Rows.{as_bytes_is}
use Rattle.paged_log.proofs.put.stands.Goals as goal

pub returns-then-place-count-clause-whole : goal.returns-then-place-count-clause-whole
returns-then-place-count-clause-whole g c = as_bytes_is 60 c.args.slot.now c.told-slot c.fits-slot

pub returns-clause-whole : goal.returns-clause-whole
returns-clause-whole g c = as_bytes_is 60 c.args.slot.now c.told-slot c.fits-slot
