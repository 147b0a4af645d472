use Rattle.reg_world.proofs.marks.Marks.count_below.Given as goal

abbrev pub ghosts-last_upto : goal.ghosts-last_upto
ghosts-last_upto a = record { name = a.blank.name; parts = a.blank.parts }
