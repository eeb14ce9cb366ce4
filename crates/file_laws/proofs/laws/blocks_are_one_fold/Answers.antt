use Rattle.file_laws.proofs.FoldedBlocks.{one_book, one_list, cut_alike}
use Rattle.file_laws.proofs.laws.blocks_are_one_fold.Goals as goal

pub returns-clause-book : goal.returns-clause-book
returns-clause-book c = one_book

pub returns-clause-replies : goal.returns-clause-replies
returns-clause-replies c = one_list

pub returns-clause-cut : goal.returns-clause-cut
returns-clause-cut c = cut_alike
