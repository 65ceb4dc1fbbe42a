use Rattle.client.specs.Message.{page_limit}
use Rattle.client.proofs.Pages.{padded_copied}
use Rattle.client.proofs.Page.padded.Goals as goal

pub returns : goal.returns
returns c = rw (c.copy_from_slice.ensures.after, c.min-n.ensures) (padded_copied page_limit c.args.bytes.now)
