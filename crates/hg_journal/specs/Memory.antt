-- What a file in memory shows.
use Rattle.std.specs.Prelude.{ℕ, List}
use Rattle.hg_journal.specs.declared.memory.MemoryFile.{MemoryFile}

-- what was written
abbrev pub memory_seen : MemoryFile → List ℕ
memory_seen file = file.seen.items

-- what was on the disk at the last sync
abbrev pub memory_disk : MemoryFile → List ℕ
memory_disk file = file.disk.items
