use Rattle.fixed_decimal.proofs.writing.+put_part.Given as goal

abbrev pub decreases-put_part : goal.decreases-put_part
decreases-put_part l = l.places
