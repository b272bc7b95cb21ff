use Rattle.std.proofs.Common.{[], inr, refl, ◌∙◌, take, rules}
use Rattle.std.proofs.lemmas.Result.{err_from_is_err_and}
use Rattle.babel_capture.specs.Blocks.{BeginsBlock}
use Rattle.babel_capture.specs.Sinking.{LeadMore}
use Rattle.babel_capture.proofs.ReadingLaws.{rest_of, used-within, lead-both, lead-none-more, sinks-block, sinks-led, some_of, taken-more, header-stops, block-needs, block-stops, else-by}
use Rattle.babel_capture.proofs.SinkLaws.{any-err, sinks-both, sinks-none}
use Rattle.babel_capture.proofs.MemoryLaws.{header-other}
use Rattle.babel_capture.proofs.reader.Reader.take_blocks.Goals as goal

pub returns-in_err-block-clause-stops : goal.returns-in_err-block-clause-stops
returns-in_err-block-clause-stops g c =
    let exit = err_from_is_err_and c.from_residual.result c.from_residual.ensures.1 in
    rw (exit.1, exit.2) (inr (λ limit read lead.
    header-stops limit _ read c.args.octets.now c.loop-block.used c.loop-block.self _ c.loop-block.invariant.wanted c.in_err-block.ensures.err (c.loop-block.invariant.took.are_read limit read lead).0))

pub returns-in_err-take_block-clause-stops : goal.returns-in_err-take_block-clause-stops
returns-in_err-take_block-clause-stops g c =
    let exit = err_from_is_err_and c.from_residual-in_err-take_block.result c.from_residual-in_err-take_block.ensures.1 in
    rw (exit.1, exit.2) (else-by (λ fails limit read lead.
    block-stops limit _ read c.args.octets.now c.in-Some.block.now c.loop-block.used c.loop-block.self _ c.loop-block.invariant.wanted
    (some_of c.in_ok-block.field-0 _ (λ block. BeginsBlock c.loop-block.self.context c.loop-block.self.at (rest_of c.loop-block.used c.args.octets.now) block.now) c.in-Some.is
    c.in_ok-block.ensures.whole) fails (c.loop-block.invariant.took.are_read limit read lead).0)
    c.in_err-take_block.ensures.err)

pub returns-in_err-block-clause-memory : goal.returns-in_err-block-clause-memory
returns-in_err-block-clause-memory g c =
    let exit = err_from_is_err_and c.from_residual.result c.from_residual.ensures.1 in
    rw (exit.1, exit.2) (λ memory limit read lead. absurd (header-other c.loop-block.self.context c.loop-block.self.at (rest_of c.loop-block.used c.args.octets.now) _ c.in_err-block.ensures.err
    memory))

pub returns-in_err-take_block-clause-memory : goal.returns-in_err-take_block-clause-memory
returns-in_err-take_block-clause-memory g c =
    let exit = err_from_is_err_and c.from_residual-in_err-take_block.result c.from_residual-in_err-take_block.ensures.1 in
    rw (exit.1, exit.2) (λ memory limit read lead.
    block-needs limit _ read c.args.octets.now c.in-Some.block.now c.loop-block.used c.loop-block.self c.loop-block.invariant.wanted
    (some_of c.in_ok-block.field-0 _ (λ block. BeginsBlock c.loop-block.self.context c.loop-block.self.at (rest_of c.loop-block.used c.args.octets.now) block.now) c.in-Some.is
    c.in_ok-block.ensures.whole)
    (c.in_err-take_block.ensures.memory memory) (c.loop-block.invariant.took.are_read limit read lead).0)

pub returns-in_err-block-clause-stopped : goal.returns-in_err-block-clause-stopped
returns-in_err-block-clause-stopped g c =
    any-err c.from_residual.result (sinks-led g.S.Sink.has c.args.sink.now c.loop-block.sink _ c.loop-block.self _ c.loop-block.used c.loop-block.invariant.wanted c.loop-block.invariant.took)

pub returns-in_err-take_block-clause-stopped : goal.returns-in_err-take_block-clause-stopped
returns-in_err-take_block-clause-stopped g c =
    any-err c.from_residual-in_err-take_block.result
    (sinks-block g.S.Sink.has c.args.sink.now c.loop-block.sink _ _ c.loop-block.self c.args.octets.now c.in-Some.block.now c.loop-block.used c.loop-block.invariant.wanted
    (some_of c.in_ok-block.field-0 _ (λ block. BeginsBlock c.loop-block.self.context c.loop-block.self.at (rest_of c.loop-block.used c.args.octets.now) block.now) c.in-Some.is
    c.in_ok-block.ensures.whole) c.loop-block.invariant.took c.in_err-take_block.ensures.stopped)

pub loop-block-init : goal.loop-block-init
loop-block-init g c = record {
  wanted = refl;
  passed = refl;
  within = search rules;
  took = sinks-none g.S.Sink.has c.args.sink.now (LeadMore c.args.self.now c.args.self.now []) (lead-none-more c.args.self.now);
}

pub loop-block-preserved : goal.loop-block-preserved
loop-block-preserved g c =
    let begins = some_of c.in_ok-block.field-0 _ (λ block. BeginsBlock c.loop-block.self.context c.loop-block.self.at (rest_of c.loop-block.used c.args.octets.now) block.now) c.in-Some.is
    c.in_ok-block.ensures.whole in
    let front = take c.loop-block.used c.args.octets.now in
    record {
      wanted = c.take_block.ensures.wanted ∙ c.loop-block.invariant.wanted;
      passed = c.take_block.ensures.passed ∙ c.loop-block.invariant.passed;
      within = used-within c.loop-block.self.context c.loop-block.self.at c.loop-block.used c.args.octets.now c.in-Some.block.now c.loop-block.invariant.within begins;
      took = sinks-both g.S.Sink.has c.args.sink.now c.loop-block.sink c.take_block.new.sink (LeadMore c.args.self.now c.loop-block.self front)
          (LeadMore c.loop-block.self c.take_block.new.self c.in-Some.block.now) _
          (lead-both c.args.self.now c.loop-block.self c.take_block.new.self front c.in-Some.block.now _
          (taken-more c.loop-block.self.context c.loop-block.self.at c.loop-block.used c.args.octets.now c.in-Some.block.now begins))
          c.loop-block.invariant.took c.in_ok-take_block.ensures.ok;
    }
