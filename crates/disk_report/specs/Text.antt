-- The report on a disk: what its replica holds of each register, and how many stops it met.
use Rattle.std.specs.Prelude.{ℕ, suc, ◌+◌, List, [], ◌∷◌, ◌++◌, ◌&&◌, length, replicate, nat_le, codes, if◌then◌else◌}
use Rattle.std.specs.Fmt.{decimal}
use Rattle.carstamps.specs.declared.carstamp.Carstamp.{Carstamp}
use Rattle.rss_names.specs.declared.service.ServiceId.{ServiceId}
use Rattle.rss_names.specs.declared.service.ServiceId.TheVariants.{Reg}
use Rattle.rss_names.specs.Services.{same_service}
use Rattle.pipeline_lang.specs.declared.config.Config.{Config}
use Rattle.pipeline_lang.specs.Config.{register_name}
use Rattle.rss_wire.specs.declared.messages.RegReply.{RegReply}
use Rattle.rss_wire.specs.declared.messages.Request.{Request}
use Rattle.rss_tables.specs.ReplicaRow.{opening_cell}
use Rattle.replica_disk.specs.Accepts.{after_all, calls_needed}

-- the end of a line
abbrev pub newline : List ℕ
newline = 10 ∷ []

-- ` at NUMBER.CALL`
unfoldable pub stamp_text : Carstamp → List ℕ
stamp_text stamp = codes " at " ++ decimal stamp.number ++ codes "." ++ decimal stamp.call

-- `register NAME V at NUMBER.CALL by W`
unfoldable pub register_line : List ℕ → RegReply → List ℕ
register_line name held =
    codes "register " ++ name ++ codes " " ++ decimal held.value ++ stamp_text held.stamp ++ codes " by " ++ decimal held.writer ++ newline

-- the lines of registers, of which the first has this index
abbrev pub register_lines : Config → ℕ → List RegReply → List ℕ
register_lines c index [] = []
register_lines c index (held ∷ registers) = register_line (register_name c index) held ++ register_lines c (index + 1) registers

-- `replica N handled H stops S`
unfoldable pub last_line : ℕ → ℕ → ℕ → List ℕ
last_line replica handled stops =
    codes "replica " ++ decimal replica ++ codes " handled " ++ decimal handled ++ codes " stops " ++ decimal stops ++ newline

-- how often a service stands among services
abbrev pub count_of : ServiceId → List ServiceId → ℕ
count_of id [] = 0
count_of id (service ∷ services) = if same_service service id then suc (count_of id services) else count_of id services

-- how many registers `reg` has
abbrev pub register_count : Config → ℕ
register_count c = count_of (Reg 1) c.register_services

-- how many stops are met, where so many calls of the disk are made and the one of this number stops it
abbrev pub stops_within : ℕ → ℕ → ℕ
stops_within stop calls = if nat_le 1 stop && nat_le stop calls then 1 else 0

-- the report on the disk of a replica that handled these requests: the registers are those of a replica
-- without a disk
abbrev pub disk_text : Config → ℕ → ℕ → List Request → List ℕ
disk_text c replica stop requests =
    register_lines c 0 (after_all (replicate (register_count c) opening_cell) requests) ++ last_line replica (length requests) (stops_within stop (calls_needed (register_count c) requests))
