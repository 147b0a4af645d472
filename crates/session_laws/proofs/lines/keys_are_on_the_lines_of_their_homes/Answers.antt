use Rattle.session_laws.proofs.Frames.{lines_of_reads, lines_of_writes, lines_of_home, lines_of_home_writes}
use Rattle.session_laws.proofs.lines.keys_are_on_the_lines_of_their_homes.Goals as goal

pub returns-clause-reads : goal.returns-clause-reads
returns-clause-reads c = lines_of_reads

pub returns-clause-writes : goal.returns-clause-writes
returns-clause-writes c = lines_of_writes

pub returns-clause-read_there : goal.returns-clause-read_there
returns-clause-read_there c = lines_of_home

pub returns-clause-written_there : goal.returns-clause-written_there
returns-clause-written_there c = lines_of_home_writes
