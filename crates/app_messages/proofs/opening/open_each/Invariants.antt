use Rattle.std.proofs.Common.{◌+◌, ◌≤◌, ℕ, List, ◌++◌, length, map, string_bytes}
use Rattle.std.specs.List.{AllByRecursion}
use Rattle.file_laws.specs.Files.{AreBodies}
use Rattle.app_jobs.specs.declared.job_fault.JobFault.{JobFault}
use Rattle.app_messages.specs.Handed.{bodies_of_blocks}
use Rattle.app_messages.specs.Packed.{AreThere, HaveBlocks, IsOneTextFault}
use Rattle.app_messages.proofs.opening.open_each.Given as goal

-- what the rest has, and what is wrong with it, leads to what all texts have, and what is wrong with them
abbrev pub invariant-loop-name : goal.invariant-loop-name
invariant-loop-name g l =
    let holds = g.F.Files.holds l.files in
    let all = map string_bytes l.names in
    let rest = map string_bytes l.rest in
    let blocks = bodies_of_blocks l.blocks.items in
    record {
      few : length l.blocks.items + length l.rest ≤ 1000;
      fit : AllByRecursion AreBodies blocks;
      there : g.F.Files.is_known l.files → AreThere holds rest → AreThere holds all;
      read : (more : List (List (List ℕ))) → HaveBlocks holds rest more → HaveBlocks holds all (blocks ++ more);
      fails : (fault : JobFault) → IsOneTextFault holds (g.F.Files.failing l.files) rest fault → IsOneTextFault holds (g.F.Files.failing l.files) all fault;
    }

abbrev pub decreases-loop-name : goal.decreases-loop-name
decreases-loop-name g l = length l.rest
