use Rattle.std.proofs.Common.{◌≡◌, length, ◌∙◌, rules}
use Rattle.paged_log.proofs.PagedLogParts.{page_part}
use Rattle.paged_log.proofs.page.LogPage.put.Goals as goal

pub returns : goal.returns
returns c =
    let whole : length c.args.self.now.bytes ≡ 256 = search rules in
    c.set_count.ensures
    ∙ page_part c.args.self.now.bytes c.args.slot.now c.copy_from_slice.new.self c.args.place whole c.requires c.copy_from_slice.ensures.after
