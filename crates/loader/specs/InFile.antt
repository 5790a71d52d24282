-- What the checks ahead of a load show of a job.
use Rattle.std.specs.Prelude.{ℕ, ◌+◌, ◌-◌, ◌*◌, ◌≤◌, ◌^◌, List, length}
use Rattle.loader.specs.declared.validate.Job.{Job}

-- what the checks ahead of a load leave of a job's numbers: the text lies in the file; file, text size and the entry's offset
-- are at most 2 ^ 24; there are no more relocations than the file has room for
pub record InFile (file : List ℕ) (j : Job) : Type 0 where
  pub text : j.text.start + j.text.length ≤ length file
  pub size : j.sh_size ≤ 2 ^ 24
  pub short : length file ≤ 2 ^ 24
  pub relocations : 16 * j.layout.dynamic_relocations.count ≤ length file
  pub relas : 24 * j.layout.dynamic_relas.count ≤ length file
  pub entry : j.e_entry - j.sh_addr ≤ 2 ^ 24
