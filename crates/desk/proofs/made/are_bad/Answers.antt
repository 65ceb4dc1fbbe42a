use Rattle.desk.proofs.Wishes.{no_sets, some_sets}
use Rattle.desk.proofs.made.are_bad.Goals as goal

pub returns-then-not-is_empty-are_sets : goal.returns-then-not-is_empty-are_sets
returns-then-not-is_empty-are_sets c = no_sets c.args.drops.now c.args.sets.now _ _ c.is_empty.ensures c.are_sets.ensures c.if-not-is_empty-are_sets.true

pub returns-else-not-is_empty-are_sets : goal.returns-else-not-is_empty-are_sets
returns-else-not-is_empty-are_sets c =
    some_sets c.args.drops.now c.args.sets.now _ _ c.is_empty.ensures c.are_sets.ensures c.if-not-is_empty-are_sets.false c.drops_are_bad.result c.drops_are_bad.ensures
