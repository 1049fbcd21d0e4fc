use Rattle.tests.proofs.share_tests.+every_second.Given as goal

abbrev pub decreases-every_second : goal.decreases-every_second
decreases-every_second l = l.depth
