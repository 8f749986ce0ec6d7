use Rattle.plus_planner.proofs.places.Place.+find_among.Given as goal

abbrev pub decreases-find_among : goal.decreases-find_among
decreases-find_among g l = l.count
