pub mod Error
pub mod Renderer
pub use Rattle.csl_languages.specs as Languages
pub use Rattle.csl_common.specs as Common
pub use Rattle.lit_model.specs as Literature
pub mod Style
pub use Rattle.csl_tree.specs as Tree
pub use Rattle.csl_entry.specs as Entry
pub use Rattle.csl_context.specs as Context
pub use Rattle.csl_names.specs as Names
pub use Rattle.csl_nodes.specs as Nodes
pub use Rattle.csl_render.specs as Render
