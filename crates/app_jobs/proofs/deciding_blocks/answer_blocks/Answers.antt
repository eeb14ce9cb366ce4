use Rattle.std.proofs.Common.{◌≡◌, IsTrue, inl, inr}
use Rattle.file_devices.specs.BatchNames.{names_of}
use Rattle.app_jobs.proofs.BlockFaults.{stopped}
use Rattle.app_jobs.proofs.FirstBlocks.{before_head, behind_head, device_alone, from_three, in_head}
use Rattle.app_jobs.proofs.deciding_blocks.answer_blocks.Goals as goal

pub returns-clause-some : goal.returns-clause-some
returns-clause-some g c =
    let source = c.in_ok-blocks.blocks in
    let sink = c.in_ok-replies.replies in
    let before = c.process_blocks-processed.new.source in
    let after = c.process_blocks-processed.new.sink in
    let reads = g.F.Input.Source.is_known source in
    let bytes = g.F.Input.Source.remaining source in
    let puts = g.F.Output.Sink.is_known sink in
    let start = g.F.Output.Sink.written sink in
    let written = g.F.Output.Sink.written after in
    let one = IsTrue (g.F.Output.Sink.has_failed after) × g.F.Output.Sink.may_fail sink in
    let empty = c.in_ok-replies.ensures.empty in
    let opened = rw c.as_str.ensures.value at c.in_ok-blocks.ensures.bytes in
    let writing = rw c.as_str-2.ensures.value at c.in_ok-replies.ensures.device in
    from_three c.process_blocks-processed.result _ _ _ _ (λ halted failed device h.
    let sum = rw (c.in_ok-blocks.ensures.fresh, c.in_ok-replies.ensures.fresh) at failed in
    elim h [
      | inl first ↦ before_head _ _ _ _ _ _ _ _ reads bytes written (after ≡ sink) opened (λ k same. rw same (empty k).1) first
      | inr later ↦ elim later [
        | inl head ↦ in_head _ _ _ _ _ _ _ _ reads bytes puts start written one (λ k. (empty k).0) (λ k. (empty k).1)
            (λ alone. device_alone halted.fault (g.F.Input.Source.has_failed before) (g.F.Output.Sink.has_failed after) sum alone.0) head
        | inr behind ↦ behind_head _ _ _ _ _ _ _ _ reads bytes puts start written one opened (λ k. (empty k).0) (λ k. (empty k).1) (λ alone. writing alone.1) behind
      ]
    ]) c.process_blocks-processed.ensures.failed c.process_blocks-processed.ensures.device c.process_blocks-processed.ensures.halted

pub returns-clause-stopped : goal.returns-clause-stopped
returns-clause-stopped g c =
    let source = c.in_ok-blocks.blocks in
    let sink = c.in_ok-replies.replies in
    let before = c.process_blocks-processed.new.source in
    let after = c.process_blocks-processed.new.sink in
    let opened = rw c.as_str.ensures.value at c.in_ok-blocks.ensures.bytes in
    let reading = rw c.as_str.ensures.value at c.in_ok-blocks.ensures.device in
    let writing = rw c.as_str-2.ensures.value at c.in_ok-replies.ensures.device in
    from_three c.process_blocks-processed.result _ _ _ _ (λ halted failed device h.
    let sum = rw (c.in_ok-blocks.ensures.fresh, c.in_ok-replies.ensures.fresh) at failed in
    stopped (g.F.Files.holds c.args.files.now) (g.F.Files.failing c.args.files.now) (names_of c.args.names.now)
    _ _ _ (g.F.Input.Source.is_known source) (g.F.Input.Source.remaining source) (g.F.Output.Sink.is_known sink) (g.F.Output.Sink.written sink)
    (g.F.Output.Sink.written after) halted.fault (after ≡ sink) (IsTrue (g.F.Output.Sink.has_failed after) × g.F.Output.Sink.may_fail sink)
    (λ alone. device_alone halted.fault (g.F.Input.Source.has_failed before) (g.F.Output.Sink.has_failed after) sum alone.0)
    (λ d. elim (device d) [ inl r ↦ inl (reading r) | inr w ↦ inr (writing w) ]) opened h)
    c.process_blocks-processed.ensures.failed c.process_blocks-processed.ensures.device c.process_blocks-processed.ensures.halted
