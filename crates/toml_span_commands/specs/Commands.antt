-- The command that an argument names.
use Rattle.std.specs.Prelude.{ℕ, List, Option, Some, None, codes, if◌then◌else◌}
use Rattle.std.specs.Str.{bytes_eq}
use Rattle.toml_span_commands.specs.declared.commands.Command.{Command}
use Rattle.toml_span_commands.specs.declared.commands.Command.TheVariants as commands

abbrev pub command_named : List ℕ → Option Command
command_named name =
    if bytes_eq name (codes "check") then Some commands.Check
    else if bytes_eq name (codes "show") then Some commands.Show
    else if bytes_eq name (codes "get") then Some commands.Get
    else if bytes_eq name (codes "fmt") then Some commands.Fmt
    else if bytes_eq name (codes "set") then Some commands.Set
    else if bytes_eq name (codes "rename") then Some commands.Rename
    else if bytes_eq name (codes "remove") then Some commands.Remove
    else if bytes_eq name (codes "add") then Some commands.Add
    else if bytes_eq name (codes "append") then Some commands.Append
    else if bytes_eq name (codes "insert") then Some commands.Insert
    else if bytes_eq name (codes "move") then Some commands.Move
    else if bytes_eq name (codes "edit") then Some commands.Edit
    else if bytes_eq name (codes "lsp") then Some commands.Lsp
    else if bytes_eq name (codes "config") then Some commands.Config
    else if bytes_eq name (codes "explain") then Some commands.Explain
    else if bytes_eq name (codes "schema") then Some commands.Schema
    else if bytes_eq name (codes "help") then Some commands.Help
    else None
