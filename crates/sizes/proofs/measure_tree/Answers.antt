use Rattle.sizes.proofs.Inputs.{refused_settings, refused_tree, root_ready, given_is, refused_gives, given_gives}
use Rattle.sizes.proofs.measure_tree.Goals as goal

pub returns-then-read-ne0 : goal.returns-then-read-ne0
returns-then-read-ne0 c =
    let both = refused_gives _ _ _ _ (refused_settings _ _ _ c.read_settings-read.ensures c.if-read-ne0.true) c.refused.ensures in
    record { value = both.0; list = both.1 }

pub returns-then-t-ne0 : goal.returns-then-t-ne0
returns-then-t-ne0 c =
    let both = refused_gives _ _ _ _ (refused_tree _ _ _ c.read_settings-read.ensures
    c.if-read-ne0.false _ c.read_tree-t.ensures c.if-t-ne0.true) c.refused-then-t-ne0.ensures in record { value = both.0; list = both.1 }

pub size_tree-n-requires : goal.size_tree-n-requires
size_tree-n-requires c = root_ready _ _ _ c.read_settings-read.ensures
    c.if-read-ne0.false _ c.read_tree-t.ensures c.if-t-ne0.false

pub returns : goal.returns
returns c =
    let both = let h = c.if-read-ne0.false in
    let k = c.if-t-ne0.false in
    let q = root_ready _ _ _ c.read_settings-read.ensures h _ c.read_tree-t.ensures k in
    given_gives _ _ _ _ _ _ (given_is _ _ _ c.read_settings-read.ensures h _ c.read_tree-t.ensures k) (c.size_tree-n.ensures q) in
    record { value = both.0; list = both.1 }
