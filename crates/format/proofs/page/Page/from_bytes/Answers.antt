use Rattle.std.proofs.Common.{◌∙◌}
use Rattle.format.proofs.Paged.{page_written, content_part}
use Rattle.format.proofs.page.Page.from_bytes.Goals as goal

pub returns-clause-value : goal.returns-clause-value
returns-clause-value c =
    let content = c.copy_from_slice.ensures.after ∙ content_part c.args.bytes.now c.told-bytes in
    λ i. record { lrc = c.number_at.ensures i; content = content i }

pub returns-clause-bytes : goal.returns-clause-bytes
returns-clause-bytes c =
    rw (c.number_at.ensures, c.copy_from_slice.ensures.after, content_part c.args.bytes.now c.told-bytes)
    (page_written c.args.bytes.now (record { size = c.told-bytes; small = c.fits-bytes }))
