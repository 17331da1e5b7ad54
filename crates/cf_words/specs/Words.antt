-- The words that the program takes: `command_of` is the command that they are.
use Rattle.std.specs.Prelude.{ℕ, ◌≤◌, List, [], ◌∷◌, map, Option, None, codes, bytes_eq, string_bytes, if◌then◌else◌}
use Rattle.cf_words.specs.Command.{Command, Check, Compare, Draft, Judge, Migrate, Packets, Review, Run, Relay, World, Sift, Learn}
use Rattle.cf_words.specs.Forms.{check_of}
use Rattle.cf_words.specs.Forms.{compare_of}
use Rattle.cf_words.specs.Forms.{draft_of}
use Rattle.cf_words.specs.Forms.{judge_of}
use Rattle.cf_words.specs.Forms.{learn_of}
use Rattle.cf_words.specs.Forms.{migrate_of}
use Rattle.cf_words.specs.Forms.{packets_of}
use Rattle.cf_words.specs.Forms.{relay_of}
use Rattle.cf_words.specs.Forms.{review_of}
use Rattle.cf_words.specs.Forms.{run_of}
use Rattle.cf_words.specs.Forms.{sift_of}
use Rattle.cf_run.specs.RunCapture.{AreApart as AreRunApart, run_names_value}
use Rattle.cf_words.specs.Forms.{IsFitWorld, world_of}
use Rattle.cf_sift.specs.Names.{AreApart, sift_names_value}
use Rattle.cf_words.specs.declared.command.Command.{Command as CommandFields}
use Rattle.cf_words.specs.declared.command.Command.TheVariants as fields

-- the first word names the command, and the command says what the words after it are
abbrev pub command_of : List (List ℕ) → Option Command
command_of [] = None
command_of (name ∷ words) =
    if bytes_eq name (codes "check") then check_of words
    else if bytes_eq name (codes "compare") then compare_of words
    else if bytes_eq name (codes "draft") then draft_of words
    else if bytes_eq name (codes "judge") then judge_of words
    else if bytes_eq name (codes "learn") then learn_of words
    else if bytes_eq name (codes "migrate") then migrate_of words
    else if bytes_eq name (codes "packets") then packets_of words
    else if bytes_eq name (codes "review") then review_of words
    else if bytes_eq name (codes "run") then run_of words
    else if bytes_eq name (codes "relay") then relay_of words
    else if bytes_eq name (codes "world") then world_of words
    else if bytes_eq name (codes "sift") then sift_of words
    else None

-- what a contract sees of a command
abbrev pub command_value : CommandFields → Command
command_value (fields.Check policy) = Check policy.now
command_value (fields.Compare policy other) = Compare policy.now other.now
command_value (fields.Draft policy out captures) = Draft policy.now out.now (map string_bytes captures.now)
command_value (fields.Judge policy capture) = Judge policy.now capture.now
command_value (fields.Learn policy capture out) = Learn policy.now capture.now out.now
command_value (fields.Migrate policy out) = Migrate policy.now out.now
command_value (fields.Packets capture) = Packets capture.now
command_value (fields.Review policy captures log) = Review policy.now (map string_bytes captures.now) log.now
command_value (fields.Run policy names) = Run policy.now (run_names_value names)
command_value (fields.Relay policy asset port idles log) = Relay policy.now asset.now port idles log.now
command_value (fields.World seed sessions policy names) = World seed sessions policy.now (run_names_value names)
command_value (fields.Sift policy asset client names) = Sift policy.now asset.now client (sift_names_value names)

-- what the reader of the words has tested: the files of a stored stream are apart, and those of a run and of a world, and the
-- numbers of a relay and of a world are in their ranges
abbrev pub HasFitWords : CommandFields → Type 0
HasFitWords (fields.Run policy names) = AreRunApart (run_names_value names)
HasFitWords (fields.Sift policy asset client names) = AreApart (sift_names_value names)
HasFitWords (fields.Relay policy asset port idles log) = (port ≤ 65535) × (1 ≤ idles) × (idles ≤ 1000000)
HasFitWords (fields.World seed sessions policy names) = IsFitWorld sessions policy.now (run_names_value names)
HasFitWords _ = Unit {0}
