use Rattle.std.proofs.Common.{rules, ◌≡◌, ◌+◌, ◌++◌, length, drop, ◌∙◌, ap}
use Rattle.std.specs.List.{flat_map}
use Rattle.std.proofs.lemmas.Result.{err_from_is_err_and, on_err_weaker, on_ok_weaker}
use Rattle.file_batch.specs.Writing.{items_text}
use Rattle.file_laws.specs.Files.{head_text}
use Rattle.file_batch.proofs.Pieces.{behind_length, so_many, nothing_put, adds, moves, stops, halts, ends, one_more_at, the_rest, all_of_them, one_more_holds, all_hold}
use Rattle.file_batch.proofs.writing.put_items.Goals as goal

pub returns-in_err-add-clause-err : goal.returns-in_err-add-clause-err
returns-in_err-add-clause-err g c =
    let p = err_from_is_err_and c.from_residual-in_err-add.result c.from_residual-in_err-add.ensures.1 in
    let items = c.args.items.now in
    let text = behind_length g.T.FileItem.text in
    let head = head_text c.args.magic.now (length items) in
    rw p.1 (λ known. halts (g.W.Sink.written c.args.sink.now) (g.W.Sink.written c.loop-item.sink) c.loop-item.out.items
    (so_many text head items c.loop-item.item-index) (flat_map text (drop c.loop-item.item-index items)) (items_text g.T.FileItem.text c.args.magic.now items)
    (the_rest text head items c.loop-item.item-index) (c.loop-item.invariant.bytes known))

pub returns-in_err-put_piece-clause-err : goal.returns-in_err-put_piece-clause-err
returns-in_err-put_piece-clause-err g c =
    let p = err_from_is_err_and c.from_residual-in_err-put_piece.result c.from_residual-in_err-put_piece.ensures.1 in
    let items = c.args.items.now in
    let text = behind_length g.T.FileItem.text in
    let i = c.loop-item.item-index in
    let head = head_text c.args.magic.now (length items) in
    rw p.1 (λ known. stops (g.W.Sink.written c.args.sink.now) (g.W.Sink.written c.loop-item.sink) (g.W.Sink.written c.put_piece.new.sink)
    c.add.new.out.items (so_many text head items (i + 1)) (flat_map text (drop (i + 1) items)) (items_text g.T.FileItem.text c.args.magic.now items)
    (c.in_err-put_piece.ensures.err (c.loop-item.invariant.device.known known)) (the_rest text head items (i + 1))
    (adds (g.W.Sink.written c.args.sink.now) (g.W.Sink.written c.loop-item.sink) c.loop-item.out.items (so_many text head items i)
    c.add.new.out.items (so_many text head items (i + 1)) (text c.item-item.result)
    c.in_ok-add.ensures.text (one_more_at text head items i c.item-item.result c.loop-item-test.true c.item-item.is) (c.loop-item.invariant.bytes known)))

pub loop-item-preserved : goal.loop-item-preserved
loop-item-preserved g c =
    let items = c.args.items.now in
    let text = behind_length g.T.FileItem.text in
    let i = c.loop-item.item-index in
    let head = head_text c.args.magic.now (length items) in
    record {
      device = search rules;
      bytes = λ known. moves (g.W.Sink.written c.args.sink.now) (g.W.Sink.written c.loop-item.sink) (g.W.Sink.written c.put_piece.new.sink)
          c.add.new.out.items c.put_piece.new.out.items (so_many text head items (i + 1))
          (c.in_ok-put_piece.ensures.ok (c.loop-item.invariant.device.known known))
          (adds (g.W.Sink.written c.args.sink.now) (g.W.Sink.written c.loop-item.sink) c.loop-item.out.items (so_many text head items i)
          c.add.new.out.items (so_many text head items (i + 1)) (text c.item-item.result)
          c.in_ok-add.ensures.text (one_more_at text head items i c.item-item.result c.loop-item-test.true c.item-item.is) (c.loop-item.invariant.bytes known));
      holds = one_more_holds g.T.FileItem.holds items i c.item-item.result c.loop-item-test.true c.item-item.is c.in_ok-add.ensures.holds c.loop-item.invariant.holds;
    }

pub returns-clause-err : goal.returns-clause-err
returns-clause-err g c = on_err_weaker c.put_all.result (λ part known.
    let items = c.args.items.now in
    let text = behind_length g.T.FileItem.text in
    let i = c.loop-item.item-index in
    let head = head_text c.args.magic.now (length items) in
    stops (g.W.Sink.written c.args.sink.now) (g.W.Sink.written c.loop-item.sink) (g.W.Sink.written c.put_all.new.sink)
    c.loop-item.out.items (so_many text head items i) (flat_map text (drop i items)) (items_text g.T.FileItem.text c.args.magic.now items)
    (rw c.deref.ensures.value at (part (c.loop-item.invariant.device.known known))) (the_rest text head items i) (c.loop-item.invariant.bytes known)) c.put_all.ensures.err

pub returns-clause-ok : goal.returns-clause-ok
returns-clause-ok g c = on_ok_weaker c.put_all.result (λ all known.
    let items = c.args.items.now in
    let text = behind_length g.T.FileItem.text in
    let i = c.loop-item.item-index in
    let head = head_text c.args.magic.now (length items) in
    let put : g.W.Sink.written c.put_all.new.sink ≡ g.W.Sink.written c.loop-item.sink ++ c.loop-item.out.items = rw c.deref.ensures.value at (all (c.loop-item.invariant.device.known known)) in
    ends (g.W.Sink.written c.args.sink.now) (g.W.Sink.written c.loop-item.sink) (g.W.Sink.written c.put_all.new.sink) c.loop-item.out.items (so_many text head items i) put (c.loop-item.invariant.bytes known)
    ∙ ap (λ x. g.W.Sink.written c.args.sink.now ++ x) (all_of_them text head items i c.loop-item-test.false)) c.put_all.ensures.ok

pub returns-clause-holds : goal.returns-clause-holds
returns-clause-holds g c = on_ok_weaker c.put_all.result (λ all. all_hold g.T.FileItem.holds c.args.items.now c.loop-item.item-index c.loop-item-test.false c.loop-item.invariant.holds) c.put_all.ensures.ok

pub returns-in_err-add_head-clause-err : goal.returns-in_err-add_head-clause-err
returns-in_err-add_head-clause-err g c =
    let p = err_from_is_err_and c.from_residual.result c.from_residual.ensures.1 in
    let items = c.args.items.now in
    rw p.1 (λ known. nothing_put (g.W.Sink.written c.args.sink.now) (items_text g.T.FileItem.text c.args.magic.now items))
