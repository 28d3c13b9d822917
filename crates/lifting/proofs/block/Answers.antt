use Rattle.lifting.proofs.Calls.Blocks.{block_fits}
use Rattle.lifting.proofs.block.Goals as goal

pub slice_bounds-result-end : goal.slice_bounds-result-end
slice_bounds-result-end c = (block_fits (c.has_block.ensures.yes c.if-has_block.true)).0
