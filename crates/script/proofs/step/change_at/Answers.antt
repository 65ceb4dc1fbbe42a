use Rattle.script.proofs.Tags.{change_whole}
use Rattle.script.proofs.step.change_at.Goals as goal

pub returns : goal.returns
returns c =
    change_whole c.args.b.now c.args.new.now c.copy_counted.new.out c.byte_at-count.result c.wish_of-wish.result c.byte_at-count.ensures c.copy_counted.ensures c.wish_of-wish.ensures
