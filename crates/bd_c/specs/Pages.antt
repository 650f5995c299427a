-- What C is told of a page.
use Rattle.bd_driver.specs.declared.page.Page.{Page}
use Rattle.bd_c.specs.declared.pages.PageTold.{PageTold}

abbrev pub page_told : Page → PageTold
page_told page = record { stamp = page.stamp; ready = page.ready; taken = page.taken }
