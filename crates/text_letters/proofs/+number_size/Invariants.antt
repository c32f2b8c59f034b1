-- The measure is the number.
use Rattle.text_letters.proofs.+number_size.Given as goal

abbrev pub decreases-number_size : goal.decreases-number_size
decreases-number_size l = l.n
