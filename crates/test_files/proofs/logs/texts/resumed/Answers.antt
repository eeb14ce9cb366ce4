use Rattle.test_files.proofs.logs.texts.resumed.Goals as goal

pub resume-requires : goal.resume-requires
resume-requires c = record {
  end = λ known.
      let read = rw (c.new.ensures.file, c.new.ensures.at) at (c.in_ok-log.ensures.read tt) in
      (_, _, read.0, read.1, read.2);
}
