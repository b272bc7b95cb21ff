-- A path of less than 128 bits fits.
use Rattle.std.proofs.Common.{◌+◌, ap, arith}
use Rattle.babel_trie.specs.declared.table.Sources.TheVariants.{Constant}
use Rattle.babel_trie.proofs.AlongLaws.{longer_in, shifted_fits}
use Rattle.babel_trie.proofs.table.Node.longer.Goals as goal

pub overflow_add-result-2 : goal.overflow_add-result-2
overflow_add-result-2 g c =
    let n = c.args.self.now in
    omega (arith, longer_in n.skip n.path c.args.more c.args.path c.requires.skip c.requires.path c.requires.more)

pub returns : goal.returns
returns g c =
    let n = c.args.self.now in
    ap (λ p. record { skip = n.skip + c.args.more; path = n.path + p; outside = Constant c.args.value; low = n.low; high = n.high })
    (shifted_fits n.skip c.args.more c.args.path c.requires.skip c.requires.more)
