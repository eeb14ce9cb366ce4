use Rattle.std.proofs.Common.{List, subst, sym}
use Rattle.std.proofs.lemmas.Result.{on_ok_weaker}
use Rattle.json.specs.Token.{Token}
use Rattle.book_laws.specs.Text.{Adds}
use Rattle.book_laws.proofs.WrittenTokens.{then}
use Rattle.message_text.specs.Lines.{block_members}
use Rattle.message_text.proofs.ElementMembers.{all_append}
use Rattle.message_text.proofs.writing.put_place.Goals as goal

pub returns : goal.returns
returns c =
    on_ok_weaker _
    (λ index. subst (λ (ts : List Token). Adds c.args.out.now c.number_field.new.self ts) (sym (all_append (block_members c.args.place.block) _)) (then c.in_ok-put_block.ensures index))
    c.number_field.ensures
