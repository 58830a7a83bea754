-- What contracts see of a task.
use Rattle.std.specs.Prelude.{map, string_bytes}
use Rattle.mat_program.specs.declared.tasks.ProgramTask as declared
use Rattle.mat_program.specs.declared.tasks.ProgramTask.TheVariants.{Print, Tell, Draw, Call}
use Rattle.mat_program.specs.Tasks.{ProgramTask, print, tell, draw, call}

-- a task with its texts, names or words
abbrev pub task_of : declared.ProgramTask → ProgramTask
task_of (Print text) = print text.now
task_of (Tell description certificate) = tell description.now certificate.now
task_of (Draw description certificate) = draw description.now certificate.now
task_of (Call words) = call (map string_bytes words.now)
