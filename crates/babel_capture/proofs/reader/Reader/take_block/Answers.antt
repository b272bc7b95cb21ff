use Rattle.std.proofs.Common.{◌≡◌, ◌+◌, ◌++◌, List, ℕ, length, refl, sym, subst}
use Rattle.std.specs.Prelude.{Ok, OnOk}
use Rattle.std.proofs.lemmas.Result.{IfErr-weaker, IfOk-at_ok}
use Rattle.babel_capture.specs.declared.block.Block.{Block}
use Rattle.babel_capture.specs.declared.fault.Fault.{Fault}
use Rattle.babel_capture.specs.declared.fault.Fault.TheVariants as faults
use Rattle.babel_capture.specs.Blocks.{IsBlock, passage_after}
use Rattle.babel_capture.specs.Contents.{Content, block_said, content_of, names_in}
use Rattle.babel_capture.specs.Gathering.{BlockNeedsMemory}
use Rattle.babel_capture.specs.Reading.{Progress, passage_in}
use Rattle.babel_capture.specs.Sinking.{LeadMore, Sinks, StopBlock}
use Rattle.babel_capture.specs.contracts.reader.Reader.{the_view}
use Rattle.babel_capture.proofs.MemoryLaws.{if-memory}
use Rattle.babel_capture.proofs.ReadingLaws.{lead-push, stop-block, stop-here}
use Rattle.babel_capture.proofs.SinkLaws.{any-err, ok-both, sinks-as, sinks-none}
use Rattle.babel_capture.proofs.reader.Reader.take_block.Goals as goal

pub returns-clause-ok : goal.returns-clause-ok
returns-clause-ok g c =
    let says : block_said c.self.inside.context c.self.inside.at c.args.block.now ≡ Ok (content_of c.in-Ok.said) =
    IfOk-at_ok (λ (said : Block). block_said c.self.inside.context c.self.inside.at c.args.block.now ≡ Ok (content_of said)) c.in-Ok.is c.read_block-read.ensures.ok in
    let old = the_view c.self.inside in
    let new = the_view (record { context = c.take.new.self; passing = c.take_said.new.self; at = c.self.inside.at + length c.args.block.now; passed = c.self.inside.passed }) in
    let block = c.args.block.now in
    let is_block = subst (λ (p : Progress). IsBlock p.context p.at block) (sym c.self.view_is) c.requires.is_block in
    subst (λ (p : Progress). OnOk c.take_said.result (Sinks g.S.Sink.has c.args.sink.now c.take_said.new.sink (LeadMore p new block))) c.self.view_is
    (ok-both c.take_said.result (λ (both : (new.gathering.names ≡ old.gathering.names ++ names_in (content_of c.in-Ok.said)) × (passage_in new ≡ passage_after (passage_in old) old.at (content_of c.in-Ok.said))) sinks. sinks-as g.S.Sink.has c.args.sink.now c.take_said.new.sink _ (LeadMore old new block)
    (λ more gathers. lead-push block old new (content_of c.in-Ok.said) more is_block says c.in_ok-take.ensures.ok refl gathers both.1 both.0) sinks)
    (ok-both c.take_said.result (λ names passage. (names, passage)) c.take_said.ensures.names c.take_said.ensures.passage) c.take_said.ensures.ok)

pub returns-in-Err-clause-stopped : goal.returns-in-Err-clause-stopped
returns-in-Err-clause-stopped g c = sinks-none g.S.Sink.has c.args.sink.now (StopBlock c.args.self.now c.args.block.now) (stop-here c.args.self.now c.args.block.now)

pub returns-in_err-take-clause-stopped : goal.returns-in_err-take-clause-stopped
returns-in_err-take-clause-stopped g c =
    any-err c.from_residual.result (sinks-none g.S.Sink.has c.args.sink.now (StopBlock c.args.self.now c.args.block.now) (stop-here c.args.self.now c.args.block.now))

pub returns-clause-stopped : goal.returns-clause-stopped
returns-clause-stopped g c =
    let says : block_said c.self.inside.context c.self.inside.at c.args.block.now ≡ Ok (content_of c.in-Ok.said) =
    IfOk-at_ok (λ (said : Block). block_said c.self.inside.context c.self.inside.at c.args.block.now ≡ Ok (content_of said)) c.in-Ok.is c.read_block-read.ensures.ok in
    let old = the_view c.self.inside in
    let block = c.args.block.now in
    let is_block = subst (λ (p : Progress). IsBlock p.context p.at block) (sym c.self.view_is) c.requires.is_block in
    IfErr-weaker c.take_said.result _ (λ (fault : Fault). Sinks g.S.Sink.has c.args.sink.now c.take_said.new.sink (StopBlock c.args.self.now block))
    (λ fault some. subst (λ (p : Progress). Sinks g.S.Sink.has c.args.sink.now c.take_said.new.sink (StopBlock p block)) c.self.view_is
    (sinks-as g.S.Sink.has c.args.sink.now c.take_said.new.sink _ (StopBlock old block) (λ more part. stop-block block old (content_of c.in-Ok.said) more is_block says part) some))
    c.take_said.ensures.stopped

-- the block says what needs memory
abbrev Needs : List ℕ → Progress → Type 0
Needs block old = (content : Content) × (block_said old.context old.at block ≡ Ok content) × BlockNeedsMemory old.gathering.wanted old.gathering.senders content

pub returns-clause-memory : goal.returns-clause-memory
returns-clause-memory g c =
    let says : block_said c.self.inside.context c.self.inside.at c.args.block.now ≡ Ok (content_of c.in-Ok.said) =
    IfOk-at_ok (λ (said : Block). block_said c.self.inside.context c.self.inside.at c.args.block.now ≡ Ok (content_of said)) c.in-Ok.is c.read_block-read.ensures.ok in
    IfErr-weaker c.take_said.result (λ (fault : Fault). fault ≡ faults.Memory → BlockNeedsMemory c.self.inside.passing.gathering.wanted c.self.inside.passing.gathering.senders (content_of c.in-Ok.said))
    (λ (fault : Fault). fault ≡ faults.Memory → Needs c.args.block.now c.args.self.now)
    (λ fault needs memory. subst (Needs c.args.block.now) c.self.view_is (content_of c.in-Ok.said, says, needs memory)) c.take_said.ensures.memory

pub returns-in_err-take-clause-memory : goal.returns-in_err-take-clause-memory
returns-in_err-take-clause-memory g c =
    let says : block_said c.self.inside.context c.self.inside.at c.args.block.now ≡ Ok (content_of c.in-Ok.said) =
    IfOk-at_ok (λ (said : Block). block_said c.self.inside.context c.self.inside.at c.args.block.now ≡ Ok (content_of said)) c.in-Ok.is c.read_block-read.ensures.ok in
    if-memory c.from_residual.result (Needs c.args.block.now c.args.self.now)
    (subst (Needs c.args.block.now) c.self.view_is (content_of c.in-Ok.said, says, c.in_err-take.ensures.err c.self.inside.passing.gathering.wanted c.self.inside.passing.gathering.senders))
