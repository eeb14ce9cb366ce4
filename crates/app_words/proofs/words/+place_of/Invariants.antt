use Rattle.app_words.proofs.words.+place_of.Given as goal

abbrev pub decreases-place_of : goal.decreases-place_of
decreases-place_of l = l.count
