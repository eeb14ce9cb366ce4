use Rattle.std.proofs.Common.{rules, tests, ◌≡◌, ◌↔◌, ◌==◌, Bool, IsTrue, length, map, zip, sym, subst}
use Rattle.std.proofs.lemmas.Iterator.{YieldsList-from_slice, YieldsList-from_zip}
use Rattle.std.proofs.lemmas.Iterator.Search.{all_from_yields_List}
use Rattle.std.specs.List.{list_all}
use Rattle.app_audit.specs.Blocks.{counts}
use Rattle.app_audit.proofs.SameCounts.{decided}
use Rattle.app_audit.proofs.auditing_blocks.have_same_counts.Goals as goal

pub returns-then-blocks-replies : goal.returns-then-blocks-replies
returns-then-blocks-replies c =
    let road = YieldsList-from_zip {s = c.zip.result} (YieldsList-from_slice {s = _} c.args.blocks.now (search rules)) (YieldsList-from_slice {s = _} c.args.replies.now (search rules)) in
    let all : c.all.result ≡ list_all (λ p. length p.0.items == length p.1.items) (zip c.args.blocks.now c.args.replies.now) =
    all_from_yields_List (λ p. length p.0.items == length p.1.items) c.all.new.self _ c.all.result c.all.ensures.ran road (λ x b q k. search (rules, tests)) in
    subst (λ (r : Bool). IsTrue r ↔ (counts (map (λ b. b.items) c.args.blocks.now) ≡ counts (map (λ b. b.items) c.args.replies.now))) (sym all)
    (decided (λ b. b.items) (λ b. b.items) c.args.blocks.now c.args.replies.now (search rules))
