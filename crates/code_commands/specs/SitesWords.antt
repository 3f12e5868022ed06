-- What the words of `sites` say.
use Rattle.cli_words.specs.declared.options.SiteOptions.{SiteOptions}
pub use Rattle.site_lists.specs.declared.options.ListOptions.{ListOptions}

-- what they take the object for
abbrev pub list_options : SiteOptions → ListOptions
list_options options = record { «module» = options.module }
