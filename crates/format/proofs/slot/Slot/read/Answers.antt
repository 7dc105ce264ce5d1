use Rattle.std.proofs.Common.{is_ok, ap, ◌∙◌}
use Rattle.format.proofs.Encoding.{reads_fit, answer_written}
use Rattle.format.proofs.slot.Slot.read.Goals as goal

pub returns-clause-fits : goal.returns-clause-fits
returns-clause-fits g c = ap is_ok c.decode.ensures ∙ reads_fit g.C.Change.meaning c.args.pages c.args.number c.args.bytes.now

pub returns-clause-bytes : goal.returns-clause-bytes
returns-clause-bytes g c =
    answer_written g.C.Change.meaning c.args.pages c.args.number c.args.bytes.now g.met.C.Change.lawful
    (record { size = c.told-bytes; small = c.fits-bytes }) c.decode.result c.decode.ensures
