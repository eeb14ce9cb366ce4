use Rattle.std.proofs.Common.{ℕ, List, ◌++◌, length, map, string_bytes}
use Rattle.file_batch.specs.Bodies.{bytes_of}
use Rattle.file_laws.specs.Files.{AreBodies}
use Rattle.app_jobs.specs.declared.job_fault.JobFault.{JobFault}
use Rattle.app_messages.specs.Packed.{AreThere, HaveBodies, IsBodiesFault}
use Rattle.app_messages.proofs.opening.open_texts.Given as goal

-- what the rest has, and what is wrong with it, leads to what all texts have, and what is wrong with them
abbrev pub invariant-loop-name : goal.invariant-loop-name
invariant-loop-name g l =
    let holds = g.F.Files.holds l.files in
    let all = map string_bytes l.names in
    let rest = map string_bytes l.rest in
    let bodies = bytes_of l.bodies.items in
    record {
      fit : AreBodies bodies;
      there : g.F.Files.is_known l.files → AreThere holds rest → AreThere holds all;
      read : (more : List (List ℕ)) → HaveBodies holds rest more → HaveBodies holds all (bodies ++ more);
      fails : (fault : JobFault) → IsBodiesFault holds (g.F.Files.failing l.files) (length bodies) rest fault
          → IsBodiesFault holds (g.F.Files.failing l.files) 0 all fault;
    }

abbrev pub decreases-loop-name : goal.decreases-loop-name
decreases-loop-name g l = length l.rest
